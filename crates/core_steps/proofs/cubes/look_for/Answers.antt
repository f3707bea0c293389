use Rattle.std.proofs.Common.{◌≡◌, ◌∷◌, [], ◌++◌, subst}
use Rattle.std.proofs.lemmas.Option.{IfSome_then}
use Rattle.aosi_desk.specs.declared.cube.CubeFound.{CubeFound}
use Rattle.core_program.specs.ClientCalls.{desk_entry}
use Rattle.core_cells.specs.declared.desk.DeskAnswer.TheVariants as said
use Rattle.core_cells.specs.declared.desk.DeskCall.TheVariants as asked
use Rattle.core_steps.proofs.OnCore.{knows-found}
use Rattle.core_steps.proofs.cubes.look_for.Goals as goal

pub returns-clause-knows : goal.returns-clause-knows
returns-clause-knows g c =
    let opening = g.P.CellCaller.opening in
    let number = g.P.CellCaller.number in
    let own = g.P.CellCaller.own in
    let before = c.args.caller.now in
    let after = c.find_cube.new.caller in
    let did = c.in_ok-found.ensures in
    IfSome_then c.told_cube.result c.told_cube.ensures
    (λ cube is. knows-found c.args.size.now.shards cube.place 0 c.in_ok-text.text cube.schema (opening before)
    (opening after) (number before) (number after) c.args.session (own before) (own after) did.opening did.number
    (subst (λ (found : CubeFound). own after ≡ own before
    ++ desk_entry (number before) (asked.FindCube c.args.session 0 c.in_ok-text.text) (said.Found found) ∷ []) is
    did.own) c.requires.on_core)

pub returns-clause-same : goal.returns-clause-same
returns-clause-same g c = IfSome_then c.told_cube.result c.told_cube.ensures (λ cube is. c.in_ok-found.ensures.same)
