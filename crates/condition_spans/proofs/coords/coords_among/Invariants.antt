use Rattle.std.proofs.Common.{◌≡◌, ◌++◌, length}
use Rattle.condition_spans.specs.CodedConditions.{coded_values}
use Rattle.condition_spans.specs.Spans.{coords_among}
use Rattle.condition_spans.proofs.coords.coords_among.Given as goal

abbrev pub invariant-values : goal.invariant-values
invariant-values l =
    l.coords.items ++ coords_among l.cardinality (coded_values l.codes_left l.values_left)
    ≡ coords_among l.cardinality (coded_values l.codes l.values)

abbrev pub decreases-values : goal.decreases-values
decreases-values l = length l.values_left
