use Rattle.std.proofs.Common.{◌≡◌, ◌∙◌, ◌+◌, List, [], ◌∷◌, ◌++◌, subst}
use Rattle.turn_board.specs.History.{event}
use Rattle.core_program.specs.ClientCalls.{desk_entry}
use Rattle.core_cells.specs.declared.desk.DeskCall.TheVariants as asked
use Rattle.core_program.specs.AnswersOfCalls.{HaveAnswers}
use Rattle.core_program.specs.CoreFits.{CoreEntry, FitsOwnCalls}
use Rattle.cube_core.specs.declared.cell.CoreCall.TheVariants as call
use Rattle.flush_loop.proofs.OpenedAndClosed.{after-opening, may-open}
use Rattle.flush_loop.specs.PlainRounds.{KnowsAfterOpening}
use Rattle.flush_loop.proofs.desk.open_round.Goals as goal

pub call-requires-clause-there : goal.call-requires-clause-there
call-requires-clause-there g c =
    let cells = g.P.CellCaller.opening c.args.caller.now in
    let number = g.P.CellCaller.number c.args.caller.now in
    let client = c.args.size.now.sessions + 1 in
    let own = g.P.CellCaller.own c.args.caller.now in
    (c.clients_fit_by_what_they_know.ensures.desk cells number client own asked.RoundOpen
    (c.the_flusher_is_a_client.ensures.client cells number client c.args.size.now.shards c.requires.flusher)
    (may-open g.S.LinkedShard.fits g.S.LinkedShard.stands g.S.LinkedShard.says cells number client c.args.size.now.shards c.requires.flusher own
    c.requires.between)).there

pub call-requires-clause-fits : goal.call-requires-clause-fits
call-requires-clause-fits g c =
    let cells = g.P.CellCaller.opening c.args.caller.now in
    let number = g.P.CellCaller.number c.args.caller.now in
    let client = c.args.size.now.sessions + 1 in
    let own = g.P.CellCaller.own c.args.caller.now in
    c.clients_fit_by_what_they_know.ensures.desk cells number client own asked.RoundOpen
    (c.the_flusher_is_a_client.ensures.client cells number client c.args.size.now.shards c.requires.flusher)
    (may-open g.S.LinkedShard.fits g.S.LinkedShard.stands g.S.LinkedShard.says cells number client c.args.size.now.shards c.requires.flusher own
    c.requires.between)

pub round_in-requires : goal.round_in-requires
round_in-requires g c =
    let all =
    c.answers_fit_their_calls.ensures.all (g.P.CellCaller.opening c.call.new.self) (g.P.CellCaller.number c.call.new.self)
    (g.P.CellCaller.own c.call.new.self) c.call.ensures.history
    in
    c.answers_fit_their_calls.ensures.last (g.P.CellCaller.own c.args.caller.now)
    (event (g.P.CellCaller.number c.args.caller.now) 0 (call.Desk asked.RoundOpen) c.call.result)
    (subst (λ (own : List CoreEntry). HaveAnswers own) c.call.ensures.own all)

pub returns-clause-own : goal.returns-clause-own
returns-clause-own g c =
    let own = g.P.CellCaller.own c.args.caller.now in
    c.call.ensures.own
    ∙ (λ i. own ++ event (g.P.CellCaller.number c.args.caller.now) 0 (call.Desk asked.RoundOpen) (c.round_in.ensures i) ∷ [])

pub returns-clause-knows : goal.returns-clause-knows
returns-clause-knows g c =
    let F = g.S.LinkedShard.fits in
    let T = g.S.LinkedShard.stands in
    let A = g.S.LinkedShard.says in
    let cells = g.P.CellCaller.opening c.args.caller.now in
    let number = g.P.CellCaller.number c.args.caller.now in
    let client = c.args.size.now.sessions + 1 in
    let own = g.P.CellCaller.own c.args.caller.now in
    let now = g.P.CellCaller.own c.call.new.self in
    let did = c.call.ensures in
    coe 1 0 (i. KnowsAfterOpening F T A (did.opening i) (did.number i) client c.round_in.result now)
    (after-opening F T A cells number client c.args.size.now.shards c.requires.flusher c.round_in.result own now c.requires.between
    (did.own ∙ (λ i. own ++ event number 0 (call.Desk asked.RoundOpen) (c.round_in.ensures i) ∷ [])))
