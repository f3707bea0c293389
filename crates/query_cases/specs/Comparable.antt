-- Whether keys can order lines, as a test.
use Rattle.std.specs.Prelude.{ℕ, ◌==◌, Bool, List}
use Rattle.std.specs.List.{list_all}
use Rattle.cube_values.specs.declared.table.Field.{Field}
use Rattle.cube_values.specs.declared.top_plan.BoundKey.{BoundKey}
use Rattle.cube_values.specs.First.{field_at}
use Rattle.top_rows.specs.Order.{variant_of}

-- Two lines have fields of one variant at a place.
abbrev pub is_like : ℕ → List Field → List Field → Bool
is_like place a b = variant_of (field_at a place) == variant_of (field_at b place)

-- A line is like each of these at the place of a key.
abbrev pub is_like_all : List (List Field) → BoundKey → List Field → Bool
is_like_all lines key line = list_all (is_like key.place line) lines

-- Lines are like each other at the place of a key.
abbrev pub are_like : List (List Field) → BoundKey → Bool
are_like lines key = list_all (is_like_all lines key) lines
