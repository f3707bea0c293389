use Rattle.core_cells.specs.declared.desk.DeskAnswer.TheVariants as answer
use Rattle.core_cells.specs.declared.desk.DeskCall.TheVariants as call
use Rattle.cube_core.proofs.Snapshots.{commits}
use Rattle.cube_core.specs.HoldStates.{IsIdle, IsWriting}
use Rattle.session_snapshots.proofs.KnownSteps.{after-call, may-call}
use Rattle.session_snapshots.proofs.endings.commit.Goals as goal

pub call_desk_cell-requires-clause-may : goal.call_desk_cell-requires-clause-may
call_desk_cell-requires-clause-may g c =
    may-call g.S.LinkedShard.fits g.S.LinkedShard.stands g.S.LinkedShard.says
    (g.P.CellCaller.opening c.args.caller.now) (g.P.CellCaller.number c.args.caller.now) c.args.session
    (g.P.CellCaller.own c.args.caller.now) (call.Commit c.args.session c.args.statement)
    (λ o k. IsWriting o c.args.session c.requires.holds.0 k) c.requires.session c.requires.holds.1
    (λ o k a_session held. (commits o c.args.session c.args.statement c.requires.holds.0 k a_session held).fits)

pub expect_done-requires : goal.expect_done-requires
expect_done-requires g c = (call.Commit c.args.session c.args.statement, tt, c.call_desk_cell.ensures.answers)

pub returns-clause-holds : goal.returns-clause-holds
returns-clause-holds g c =
    let own = g.P.CellCaller.own in
    let opening = g.P.CellCaller.opening in
    let number = g.P.CellCaller.number in
    let before = c.args.caller.now in
    let after = c.call_desk_cell.new.caller in
    let did = c.call_desk_cell.ensures in
    after-call g.S.LinkedShard.fits g.S.LinkedShard.stands g.S.LinkedShard.says (opening before) (number before)
    c.args.session c.requires.client c.requires.session (own before) (own after)
    (call.Commit c.args.session c.args.statement)
    (opening after) (number after) did.opening did.number c.call_desk_cell.result did.own
    answer.Done (λ o k. IsWriting o c.args.session c.requires.holds.0 k) (λ o k. IsIdle o c.args.session k)
    c.expect_done.ensures c.requires.holds.1
    (λ o k a_session held. (commits o c.args.session c.args.statement c.requires.holds.0 k a_session held).done.stands)
