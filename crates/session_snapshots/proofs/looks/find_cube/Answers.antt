use Rattle.std.specs.Option.{option_map_or}
use Rattle.core_cells.specs.declared.desk.DeskAnswer.TheVariants as answer
use Rattle.core_cells.specs.declared.desk.DeskCall.TheVariants as call
use Rattle.cube_core.proofs.Looking.{may-find}
use Rattle.cube_core.specs.HoldStates.{IsReadyWith}
use Rattle.session_snapshots.proofs.KnownSteps.{holds-on, may-call, ready-by-search}
use Rattle.session_snapshots.proofs.looks.find_cube.Goals as goal

pub call_desk_cell-requires-clause-may : goal.call_desk_cell-requires-clause-may
call_desk_cell-requires-clause-may g c =
    may-call g.S.LinkedShard.fits g.S.LinkedShard.stands g.S.LinkedShard.says
    (g.P.CellCaller.opening c.args.caller.now) (g.P.CellCaller.number c.args.caller.now) c.args.session
    (g.P.CellCaller.own c.args.caller.now) (call.FindCube c.args.session c.args.statement c.args.name)
    (λ o k. IsReadyWith o c.args.session c.requires.ready.0 k) c.requires.session c.requires.ready.1
    (λ o k a_session r. may-find o c.args.session c.args.statement c.args.name c.requires.ready.0 k a_session r)

pub returns-clause-same : goal.returns-clause-same
returns-clause-same g c =
    let own = g.P.CellCaller.own in
    let opening = g.P.CellCaller.opening in
    let number = g.P.CellCaller.number in
    let before = c.args.caller.now in
    let after = c.call_desk_cell.new.caller in
    let did = c.call_desk_cell.ensures in
    holds-on g.S.LinkedShard.fits g.S.LinkedShard.stands g.S.LinkedShard.says (opening before) (number before)
    c.args.session c.requires.client c.requires.session (own before) (own after)
    (call.FindCube c.args.session c.args.statement c.args.name)
    (opening after) (number after) did.opening did.number c.call_desk_cell.result did.own
    (option_map_or answer.Found c.found_in.result answer.NoMemory) c.found_in.ensures
    (ready-by-search c.args.session c.args.statement c.args.name c.found_in.result)
