use Rattle.std.proofs.Common.{subst}
use Rattle.aosi_desk.specs.Desks.{IsFound}
use Rattle.aosi_desk.specs.declared.cube.CubeFound.{CubeFound}
use Rattle.session_desk.proofs.Unfit.{none_called}
use Rattle.session_desk.proofs.unbound.note_unknown.Goals as goal

pub unreachable-requires : goal.unreachable-requires
unreachable-requires c =
    let found =
    subst (λ (f : CubeFound). IsFound c.args.desk.now.cubes c.args.name.now f) c.in-Found.is
    c.in_ok-find_cube.ensures.found
    in
    none_called c.args.desk.now.cubes c.in-Found.place c.in-Found.decl c.args.name.now c.requires found.0 found.1
