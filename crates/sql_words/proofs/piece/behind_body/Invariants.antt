use Rattle.std.proofs.Common.{length}
use Rattle.sql_words.specs.Fronts.{is_inside}
use Rattle.sql_words.proofs.Gaps.{ArePassing}
use Rattle.sql_words.proofs.piece.behind_body.Given as goal

abbrev pub invariant-body : goal.invariant-body
invariant-body l = ArePassing is_inside l.bytes l.rest

abbrev pub decreases-body : goal.decreases-body
decreases-body l = length l.rest
