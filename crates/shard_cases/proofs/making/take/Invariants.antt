use Rattle.shard_cases.specs.Cases.{IsCaseShard}
use Rattle.shard_cases.proofs.making.take.Given as goal

abbrev pub invariant-steps : goal.invariant-steps
invariant-steps g l = IsCaseShard l.shard
