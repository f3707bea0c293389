use Rattle.core_cells.specs.declared.desk.DeskAnswer.TheVariants as answer
use Rattle.core_cells.specs.declared.desk.DeskCall.TheVariants as call
use Rattle.cube_core.proofs.Looking.{creates, may-create}
use Rattle.cube_core.specs.HoldStates.{IsIdle}
use Rattle.session_snapshots.proofs.KnownSteps.{either-way, may-call}
use Rattle.session_snapshots.proofs.looks.create_cube.Goals as goal

pub call_desk_cell-requires-clause-may : goal.call_desk_cell-requires-clause-may
call_desk_cell-requires-clause-may g c =
    may-call g.S.LinkedShard.fits g.S.LinkedShard.stands g.S.LinkedShard.says
    (g.P.CellCaller.opening c.args.caller.now) (g.P.CellCaller.number c.args.caller.now) c.args.session
    (g.P.CellCaller.own c.args.caller.now) (call.CreateCube c.args.session c.args.statement c.args.decl)
    (λ o k. IsIdle o c.args.session k) c.requires.session c.requires.holds
    (λ o k a_session idle. may-create o c.args.session c.args.statement c.args.decl k
    a_session idle c.requires.made)

pub returns-clause-holds : goal.returns-clause-holds
returns-clause-holds g c =
    let own = g.P.CellCaller.own in
    let opening = g.P.CellCaller.opening in
    let number = g.P.CellCaller.number in
    let before = c.args.caller.now in
    let after = c.call_desk_cell.new.caller in
    let did = c.call_desk_cell.ensures in
    either-way g.S.LinkedShard.fits g.S.LinkedShard.stands g.S.LinkedShard.says (opening before) (number before)
    c.args.session c.requires.client c.requires.session (own before) (own after)
    (call.CreateCube c.args.session c.args.statement c.args.decl)
    (opening after) (number after) did.opening did.number c.call_desk_cell.result did.own
    answer.Created c.created_in.result (λ o k. IsIdle o c.args.session k) c.created_in.ensures c.requires.holds
    (λ made o k a_session idle. (creates o c.args.session c.args.statement c.args.decl made k idle).stands)
