use Rattle.std.proofs.Common.{◌≡◌, length}
use Rattle.cube_values.specs.Spans.{parts_have}
use Rattle.cube_values.proofs.span.each_has.Given as goal

abbrev pub invariant-parts : goal.invariant-parts
invariant-parts l = parts_have l.parts_left l.coords_left ≡ parts_have l.parts l.coords

abbrev pub decreases-parts : goal.decreases-parts
decreases-parts l = length l.parts_left
