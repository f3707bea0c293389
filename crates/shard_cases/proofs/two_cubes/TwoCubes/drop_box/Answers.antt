use Rattle.std.proofs.Common.{sym}
use Rattle.shard_cases.specs.Drawn.{shape_at}
use Rattle.shard_cases.proofs.two_cubes.TwoCubes.drop_box.Goals as goal

pub invariant_of-self : goal.invariant_of-self
invariant_of-self g c = c.drop_box.ensures.shapes shape_at (sym c.in_ok-shape.ensures) c.self.invariant
