use Rattle.shard_cases.specs.Drawn.{shape_at}
use Rattle.shard_cases.proofs.two_cubes.TwoCubes.rollback.Goals as goal

pub invariant_of-self : goal.invariant_of-self
invariant_of-self c = c.rollback.ensures.shapes shape_at c.self.invariant
