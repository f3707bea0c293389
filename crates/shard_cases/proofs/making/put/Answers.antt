use Rattle.std.proofs.Common.{sym}
use Rattle.shard_cases.specs.Cases.{case_shape}
use Rattle.shard_cases.proofs.making.put.Goals as goal

pub returns : goal.returns
returns g c = c.append.ensures.shapes (λ cube. case_shape) (sym c.in_ok-shape.ensures) c.requires
