use Rattle.std.proofs.Common.{◌≡◌, ℕ, ◌<◌, length}
use Rattle.std.specs.Prelude.{◌&&◌}
use Rattle.cube_values.specs.Spans.{part_has, IsSoundPart}
use Rattle.condition_spans.specs.CodedConditions.{coded_conditions}
use Rattle.condition_spans.specs.Spans.{passes_at}
use Rattle.condition_spans.proofs.part.part_at.Given as goal

abbrev pub invariant-conditions : goal.invariant-conditions
invariant-conditions l = record {
  same : (x : ℕ) → x < l.cardinality
      → (part_has l.part x && passes_at l.place (coded_conditions l.codes_left l.left) x)
      ≡ passes_at l.place (coded_conditions l.codes l.conditions) x;
  sound : IsSoundPart l.part;
}

abbrev pub decreases-conditions : goal.decreases-conditions
decreases-conditions l = length l.left
