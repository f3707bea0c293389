use Rattle.std.proofs.Common.{length}
use Rattle.cube_language.specs.Parts.{is_blank}
use Rattle.sql_words.proofs.Gaps.{ArePassing}
use Rattle.sql_words.proofs.part.behind_gap.Given as goal

abbrev pub invariant-gap : goal.invariant-gap
invariant-gap l = ArePassing is_blank l.bytes l.rest

abbrev pub decreases-gap : goal.decreases-gap
decreases-gap l = length l.rest
