use Rattle.std.proofs.Common.{subst}
use Rattle.aosi_desk.specs.Desks.{IsFound}
use Rattle.aosi_desk.proofs.Kept.{unknown_fits}
use Rattle.aosi_desk.proofs.Named.{none_found}
use Rattle.aosi_desk.proofs.desk.Desk.find_cube.Goals as goal

pub refuse-requires-clause-fits : goal.refuse-requires-clause-fits
refuse-requires-clause-fits c =
    let none = none_found _ c.self.inside.cubes.items _ c.args.name.now
    c.as_slice.ensures.value c.as_bytes.ensures.value
    (subst (IsFound c.as_slice.result.now c.as_bytes.result.now) c.in-Unknown.is c.in_ok-place.ensures) in
    rw (← c.self.view_is) (c.args.name.now, unknown_fits c.self.inside.cubes.items c.args.name.now none)
