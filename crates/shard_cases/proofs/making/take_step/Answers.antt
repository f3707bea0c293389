use Rattle.shard_cases.specs.Cases.{case_shape}
use Rattle.shard_cases.proofs.making.take_step.Goals as goal

pub returns-in-Rollback : goal.returns-in-Rollback
returns-in-Rollback g c = c.rollback.ensures.shapes (λ cube. case_shape) c.requires

pub returns-in-Purge : goal.returns-in-Purge
returns-in-Purge g c = c.purge.ensures.shapes (λ cube. case_shape) c.requires
