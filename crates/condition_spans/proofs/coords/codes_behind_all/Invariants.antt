use Rattle.std.proofs.Common.{◌≡◌, length}
use Rattle.std.specs.Prelude.{fold}
use Rattle.condition_spans.specs.CodedConditions.{codes_behind}
use Rattle.condition_spans.proofs.coords.codes_behind_all.Given as goal

abbrev pub invariant-values : goal.invariant-values
invariant-values l = fold codes_behind l.codes_left l.values_left ≡ fold codes_behind l.codes l.values

abbrev pub decreases-values : goal.decreases-values
decreases-values l = length l.values_left
