use Rattle.std.proofs.Common.{◌≡◌, ◌+◌, List, ◌++◌, length}
use Rattle.std.specs.Prelude.{All}
use Rattle.cube_values.specs.Shapes.{IsSoundSize}
use Rattle.cube_values.specs.Spans.{IsSoundPart}
use Rattle.cube_values.specs.declared.span.Part.{Part}
use Rattle.condition_spans.specs.CodedConditions.{coded_conditions}
use Rattle.condition_spans.specs.Spans.{ArePartsOf}
use Rattle.condition_spans.proofs.span.parts_of.Given as goal

abbrev pub invariant-sizes : goal.invariant-sizes
invariant-sizes l = record {
  parts : (tail : List Part) → ArePartsOf (coded_conditions l.codes l.conditions) l.place l.left tail
      → ArePartsOf (coded_conditions l.codes l.conditions) 0 l.sizes (l.parts.items ++ tail);
  count : l.place + length l.left ≡ length l.sizes;
  solid : All IsSoundSize l.left;
  sound : All IsSoundPart l.parts.items;
}

abbrev pub decreases-sizes : goal.decreases-sizes
decreases-sizes l = length l.left
