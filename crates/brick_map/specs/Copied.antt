-- What a round has of the bricks of a cube.
use Rattle.std.specs.Prelude.{◌≡◌, ◌≢◌, ◌⊎◌, ℕ, ◌==◌, List, [], ◌∷◌, length, Option, Some, None, if◌then◌else◌}
use Rattle.std.specs.Option.{option_map_or}
use Rattle.cube_values.specs.declared.row.CodedRow.{CodedRow}
use Rattle.cube_rounds.specs.Bricks.{BrickPart}
use Rattle.brick_store.specs.Bricks.{BrickState}
use Rattle.brick_store.specs.Copies.{round_part}
use Rattle.brick_map.specs.Births.{BrickContent, brick_numbered}

-- What a round has of a brick with this content. Only the number of its home and its content count.
abbrev pub round_part_with : ℕ → ℕ → ℕ → BrickContent → BrickPart
round_part_with from to number c = round_part from to (record {
  home = record { sizes = []; metrics = 0; number = number };
  rows = c.rows;
  entries = c.entries;
  spare_rows = 0;
  spare_entries = 0;
})

-- The part itself, where it has an entry.
abbrev pub part_with_entries : BrickPart → List BrickPart
part_with_entries part = if length part.entries == 0 then [] else part ∷ []

-- The part of the brick of a number, where it is there and has an entry of the round.
abbrev pub parts_at : ℕ → ℕ → List BrickState → ℕ → List BrickPart
parts_at from to bricks number =
    option_map_or (λ b. part_with_entries (round_part from to b)) (brick_numbered number bricks) []

-- The part of a number.
abbrev pub part_numbered : ℕ → List BrickPart → Option BrickPart
part_numbered number [] = None
part_numbered number (part ∷ parts) = if part.brick == number then Some part else part_numbered number parts

-- Of a brick with these rows its part is copied where it has entries; of a brick without rows it may be left out.
abbrev pub IsCopied : BrickPart → List CodedRow → Option BrickPart → Type 0
IsCopied part rows None = (part.entries ≡ []) ⊎ (rows ≡ [])
IsCopied part rows (Some copied) = (copied ≡ part) × (part.entries ≢ [])
