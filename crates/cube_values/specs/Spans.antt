-- Which coordinates a span has.
use Rattle.std.specs.Prelude.{ℕ, Bool, true, false, ◌&&◌, ◌==◌, ◌<◌, nat_le, List, [], ◌∷◌}
use Rattle.std.specs.List.{list_any, AllByRecursion}
use Rattle.cube_values.specs.declared.span.Part.{Part}
use Rattle.cube_values.specs.declared.span.Part.TheVariants.{All, Between, Listed}
use Rattle.cube_values.specs.declared.span.Span.{Span}
use Rattle.cube_values.specs.declared.row.CodedRow.{CodedRow}

-- A coordinate is in a part.
abbrev pub part_has : Part → ℕ → Bool
part_has All coord = true
part_has (Between first last) coord = nat_le first coord && nat_le coord last
part_has (Listed coords) coord = list_any (λ c. c == coord) coords

-- Each coordinate is in the part of its dimension, and there are as many of both.
abbrev pub parts_have : List Part → List ℕ → Bool
parts_have [] [] = true
parts_have (part ∷ parts) (coord ∷ coords) = part_has part coord && parts_have parts coords
parts_have parts coords = false

-- A span has the coordinates of a row.
abbrev pub span_has : Span → List ℕ → Bool
span_has span coords = parts_have span.parts coords

-- A span has a row.
abbrev pub span_has_row : Span → CodedRow → Bool
span_has_row span row = span_has span row.coords

-- Each number is below all that follow it.
abbrev pub Rises : List ℕ → Type 0
Rises [] = Unit {0}
Rises (n ∷ ns) = AllByRecursion (λ m. n < m) ns × Rises ns

-- A listed part rises strictly.
abbrev pub IsSoundPart : Part → Type 0
IsSoundPart All = Unit {0}
IsSoundPart (Between first last) = Unit {0}
IsSoundPart (Listed coords) = Rises coords
