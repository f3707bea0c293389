use Rattle.core_cells.specs.declared.desk.DeskAnswer.TheVariants as answer
use Rattle.core_cells.specs.declared.desk.DeskCall.TheVariants as call
use Rattle.core_events.specs.Clients.{writer_at}
use Rattle.cube_core.proofs.Snapshots.{may-write, writes}
use Rattle.cube_core.specs.HoldStates.{IsIdle, IsWriting}
use Rattle.session_snapshots.proofs.KnownSteps.{held-itself, if-answered, if-not-answered, may-call}
use Rattle.session_snapshots.proofs.openings.open_writer.Goals as goal
use Rattle.session_snapshots.specs.KnownHolds.{HoldsWriter}

pub call_desk_cell-requires-clause-may : goal.call_desk_cell-requires-clause-may
call_desk_cell-requires-clause-may g c =
    may-call g.S.LinkedShard.fits g.S.LinkedShard.stands g.S.LinkedShard.says
    (g.P.CellCaller.opening c.args.caller.now) (g.P.CellCaller.number c.args.caller.now) c.args.session
    (g.P.CellCaller.own c.args.caller.now) (call.OpenWrite c.args.session c.args.statement)
    (λ o k. IsIdle o c.args.session k) c.requires.session c.requires.holds
    (λ o k a_session idle. may-write o c.args.session c.args.statement k a_session idle)

pub returns-clause-opened : goal.returns-clause-opened
returns-clause-opened g c =
    let own = g.P.CellCaller.own in
    let opening = g.P.CellCaller.opening in
    let number = g.P.CellCaller.number in
    let before = c.args.caller.now in
    let after = c.call_desk_cell.new.caller in
    let did = c.call_desk_cell.ensures in
    held-itself c.writer_in.result (λ s. writer_at s.epoch s.deps)
    (HoldsWriter g.S.LinkedShard.fits g.S.LinkedShard.stands g.S.LinkedShard.says (opening after) (number after)
    c.args.session (own after)) c.writer_in.ensures.writer
    (if-answered g.S.LinkedShard.fits g.S.LinkedShard.stands g.S.LinkedShard.says (opening before) (number before)
    c.args.session c.requires.client c.requires.session (own before) (own after)
    (call.OpenWrite c.args.session c.args.statement)
    (opening after) (number after) did.opening did.number c.call_desk_cell.result did.own
    answer.Opened c.writer_in.result (λ o k. IsIdle o c.args.session k)
    (λ s o k. IsWriting o c.args.session (writer_at s.epoch s.deps) k) c.writer_in.ensures.said c.requires.holds
    (λ s o k a_session idle. (writes o c.args.session c.args.statement s k idle).stands))

pub returns-clause-none : goal.returns-clause-none
returns-clause-none g c =
    let own = g.P.CellCaller.own in
    let opening = g.P.CellCaller.opening in
    let number = g.P.CellCaller.number in
    let before = c.args.caller.now in
    let after = c.call_desk_cell.new.caller in
    let did = c.call_desk_cell.ensures in
    if-not-answered g.S.LinkedShard.fits g.S.LinkedShard.stands g.S.LinkedShard.says (opening before) (number before)
    c.args.session c.requires.client c.requires.session (own before) (own after)
    (call.OpenWrite c.args.session c.args.statement)
    (opening after) (number after) did.opening did.number c.call_desk_cell.result did.own
    answer.Opened c.writer_in.result (λ o k. IsIdle o c.args.session k) c.writer_in.ensures.said c.requires.holds
