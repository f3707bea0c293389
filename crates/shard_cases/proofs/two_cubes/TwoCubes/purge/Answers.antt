use Rattle.shard_cases.specs.Drawn.{shape_at}
use Rattle.shard_cases.proofs.two_cubes.TwoCubes.purge.Goals as goal

pub invariant_of-self : goal.invariant_of-self
invariant_of-self c = c.purge.ensures.shapes shape_at c.self.invariant
