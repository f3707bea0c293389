use Rattle.std.proofs.Common.{◌≡◌, take}
use Rattle.std.specs.Prelude.{filter}
use Rattle.cube_values.specs.Spans.{part_has}
use Rattle.condition_spans.proofs.part.coords_within.Given as goal

abbrev pub invariant-loop-coord : goal.invariant-loop-coord
invariant-loop-coord l = l.within.items ≡ filter (part_has l.part) (take l.coord-index l.coords)
