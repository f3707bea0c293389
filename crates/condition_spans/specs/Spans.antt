-- The span of conditions on coordinates.
-- Source: Cubrick (VLDB 2016), filters on dimensions; that a deletion takes whole bricks is this project's own.
use Rattle.std.specs.Prelude.{◌≡◌, ℕ, ◌+◌, ◌<◌, ◌==◌, ℤ, pos, negsuc, Bool, not, ◌||◌, List, [], ◌∷◌, filter_map, map, Option, Some, None, nat_lt, if◌then◌else◌}
use Rattle.std.specs.List.{list_all}
use Rattle.cube_values.specs.Regions.{holds_of, passes}
use Rattle.cube_values.specs.Spans.{part_has, parts_have, span_has}
use Rattle.cube_values.specs.declared.operation.Condition.{Condition}
use Rattle.cube_values.specs.declared.shape.Size.{Size}
use Rattle.cube_values.specs.declared.span.Part.{Part}
use Rattle.cube_values.specs.declared.span.Span.{Span}
use Rattle.cube_values.specs.declared.value.Value.{Value}
use Rattle.cube_values.specs.declared.value.Value.TheVariants.{Text, Int}
use Rattle.brick_address.specs.Addresses.{AreCoords, brick_of}

-- Coordinates as values.
abbrev pub coord_values : List ℕ → List Value
coord_values coords = map (λ coord. Int (pos coord)) coords

-- A span has exactly those coordinates of a cube for which each condition on them holds.
abbrev pub IsSpanOf : List Size → List Condition → Span → Type 0
IsSpanOf sizes conditions span =
    (coords : List ℕ) → AreCoords sizes coords
    → span_has span coords ≡ list_all (holds_of (coord_values coords)) conditions

-- Parts have both or neither of two coordinates of one brick.
abbrev pub CutNoBrick : List Size → List Part → Type 0
CutNoBrick sizes parts =
    (a b : List ℕ) → AreCoords sizes a → AreCoords sizes b → brick_of sizes a ≡ brick_of sizes b
    → parts_have parts a ≡ parts_have parts b

-- ---- one dimension

-- A condition is on another dimension than that at a place, or passes the coordinate.
abbrev pub passes_here : ℕ → Condition → ℕ → Bool
passes_here place c coord = not (c.place == place) || passes c.test (Int (pos coord))

-- Each condition on the dimension at a place passes the coordinate.
abbrev pub passes_at : ℕ → List Condition → ℕ → Bool
passes_at place conditions coord = list_all (λ c. passes_here place c coord) conditions

-- A part has exactly those coordinates of a dimension that a test passes.
abbrev pub IsPartOf : ℕ → (ℕ → Bool) → Part → Type 0
IsPartOf cardinality test part = (coord : ℕ) → coord < cardinality → part_has part coord ≡ test coord

-- The first coordinate that is not below a number, and the first that is above it.
abbrev pub start_of : ℤ → ℕ
start_of (pos n) = n
start_of (negsuc n) = 0

abbrev pub coord_behind : ℤ → ℕ
coord_behind (pos n) = n + 1
coord_behind (negsuc n) = 0

-- The coordinate that a value is.
abbrev pub coord_of : ℕ → Value → Option ℕ
coord_of cardinality (Text text) = None
coord_of cardinality (Int (pos n)) = if nat_lt n cardinality then Some n else None
coord_of cardinality (Int (negsuc n)) = None

-- The coordinates among values.
abbrev pub coords_among : ℕ → List Value → List ℕ
coords_among cardinality values = filter_map (coord_of cardinality) values

-- Each dimension has the part of the conditions on it, from the dimension at a place on.
abbrev pub ArePartsOf : List Condition → ℕ → List Size → List Part → Type 0
ArePartsOf conditions place [] [] = Unit {0}
ArePartsOf conditions place (s ∷ sizes) (part ∷ parts) =
    IsPartOf s.cardinality (passes_at place conditions) part × ArePartsOf conditions (place + 1) sizes parts
ArePartsOf conditions place sizes parts = ⊥
