use Rattle.shard_cases.proofs.Bricks.{TakesWholeBelow}
use Rattle.shard_cases.proofs.checks.cuts_none.Given as goal

abbrev pub invariant-bricks : goal.invariant-bricks
invariant-bricks l = TakesWholeBelow l.shape.sizes l.span.parts l.number
