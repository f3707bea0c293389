use Rattle.std.proofs.Common.{◌∙◌, ◌+◌, ◌++◌, [], ◌∷◌}
use Rattle.core_program.specs.ClientCalls.{desk_entry}
use Rattle.core_cells.specs.declared.desk.DeskCall.TheVariants as call
use Rattle.core_events.specs.Clients.{is_lost_to_disk}
use Rattle.flush_loop.proofs.OpenedAndClosed.{after-shut, may-shut}
use Rattle.flush_loop.specs.MadeRounds.{KnowsBetween}
use Rattle.flush_loop.proofs.desk.close_round.Goals as goal

pub call_desk_cell-requires-clause-client : goal.call_desk_cell-requires-clause-client
call_desk_cell-requires-clause-client g c =
    c.the_flusher_is_a_client.ensures.client (g.P.CellCaller.opening c.args.caller.now) (g.P.CellCaller.number c.args.caller.now)
    (c.args.size.now.sessions + 1) c.args.size.now.shards c.requires.flusher

pub call_desk_cell-requires-clause-may : goal.call_desk_cell-requires-clause-may
call_desk_cell-requires-clause-may g c =
    may-shut g.S.LinkedShard.fits g.S.LinkedShard.stands g.S.LinkedShard.says (g.P.CellCaller.opening c.args.caller.now)
    (g.P.CellCaller.number c.args.caller.now) (c.args.size.now.sessions + 1) c.args.size.now.shards c.requires.flusher c.requires.within.0
    c.args.epoch c.args.how (g.P.CellCaller.own c.args.caller.now) c.requires.within.1

pub expect_closed-requires : goal.expect_closed-requires
expect_closed-requires g c = (c.args.epoch, c.args.how, c.call_desk_cell.ensures.answers)

pub returns-clause-between : goal.returns-clause-between
returns-clause-between g c =
    let F = g.S.LinkedShard.fits in
    let T = g.S.LinkedShard.stands in
    let A = g.S.LinkedShard.says in
    let cells = g.P.CellCaller.opening c.args.caller.now in
    let number = g.P.CellCaller.number c.args.caller.now in
    let client = c.args.size.now.sessions + 1 in
    let own = g.P.CellCaller.own c.args.caller.now in
    let now = g.P.CellCaller.own c.call_desk_cell.new.caller in
    let did = c.call_desk_cell.ensures in
    coe 1 0 (i. KnowsBetween F T A (did.opening i) (did.number i) client (is_lost_to_disk c.args.how) now)
    (after-shut F T A cells number client c.args.size.now.shards c.requires.flusher c.requires.within.0 c.args.epoch c.args.how own now
    c.requires.within.1
    (did.own ∙ (λ i. own ++ desk_entry number (call.RoundClose c.args.epoch c.args.how) (c.expect_closed.ensures i) ∷ [])))
