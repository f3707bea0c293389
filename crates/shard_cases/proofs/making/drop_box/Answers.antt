use Rattle.std.proofs.Common.{sym}
use Rattle.shard_cases.specs.Cases.{case_shape}
use Rattle.shard_cases.proofs.making.drop_box.Goals as goal

pub returns : goal.returns
returns c = c.drop_box.ensures.shapes (λ cube. case_shape) (sym c.in_ok-shape.ensures) c.requires
