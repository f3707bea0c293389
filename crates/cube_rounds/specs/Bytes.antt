-- The bytes of a round. Each number has four or eight bytes, the least of them first.
-- Source: this project's own.
use Rattle.std.specs.Prelude.{ℕ, ◌+◌, ℤ, List, [], ◌∷◌, ◌++◌, length, if◌then◌else◌}
use Rattle.std.specs.Int.{w32, w64, to_le_bytes, cast_unsigned}
use Rattle.std.specs.List.{flat_map, zip}
use Rattle.cube_values.specs.declared.entry.Entry.{Entry}
use Rattle.cube_values.specs.declared.entry.Entry.TheVariants.{Run, Mark}
use Rattle.cube_values.specs.declared.row.CodedRow.{CodedRow}
use Rattle.cube_language.specs.declared.decl.DimDecl.{DimDecl}
use Rattle.cube_language.specs.declared.decl.Decl.{Decl}
use Rattle.cube_language.specs.Cubes.{cubes_text}
use Rattle.cube_rounds.specs.declared.round.RoundCube.{RoundCube}
use Rattle.cube_rounds.specs.declared.round.Round.{Round}
use Rattle.cube_rounds.specs.Bricks.{BrickPart, EntryRows, entries_with_rows}

-- A number in four bytes.
unfoldable pub four_bytes : ℕ → List ℕ
four_bytes n = to_le_bytes w32 n

-- A number in eight bytes.
unfoldable pub eight_bytes : ℕ → List ℕ
eight_bytes n = to_le_bytes w64 n

-- A number with a sign in eight bytes, in two's complement.
unfoldable pub signed_bytes : ℤ → List ℕ
signed_bytes z = to_le_bytes w64 (cast_unsigned w64 z)

-- How many items there are, and each of them.
abbrev pub counted_bytes : {T : Type 0} → (T → List ℕ) → List T → List ℕ
counted_bytes item_bytes items = eight_bytes (length items) ++ flat_map item_bytes items

-- The length of a name in one byte, and the name.
abbrev pub name_bytes : List ℕ → List ℕ
name_bytes name = length name ∷ name

-- Each coordinate, and each metric.
abbrev pub row_bytes : CodedRow → List ℕ
row_bytes row = flat_map four_bytes row.coords ++ flat_map signed_bytes row.metrics

-- A byte that tells a run from a mark, the epoch, and of a run its rows.
abbrev pub entry_rows_bytes : Entry → List CodedRow → List ℕ
entry_rows_bytes (Run epoch end) rows = 0 ∷ (eight_bytes epoch ++ counted_bytes row_bytes rows)
entry_rows_bytes (Mark epoch at) rows = 1 ∷ eight_bytes epoch

-- Entries, each with its rows.
abbrev pub entries_bytes : List EntryRows → List ℕ
entries_bytes entries = flat_map (λ e. entry_rows_bytes e.entry e.rows) entries

-- The brick's number, the number of its entries, and these, each with its rows.
abbrev pub brick_bytes : BrickPart → List ℕ
brick_bytes b =
    eight_bytes b.brick
    ++ (eight_bytes (length b.entries) ++ entries_bytes (entries_with_rows 0 b.rows b.entries))

-- The new names of a dimension of texts; a dimension of numbers has none.
abbrev pub names_bytes : DimDecl → List (List ℕ) → List ℕ
names_bytes dim names = if dim.text then counted_bytes name_bytes names else []

-- The new names of each dimension, and the bricks.
abbrev pub cube_bytes : Decl → RoundCube → List ℕ
cube_bytes cube part =
    flat_map (λ d. names_bytes d.0 d.1) (zip cube.dims part.names) ++ counted_bytes brick_bytes part.bricks

-- New cubes by their canonical text, its length before it; nothing where there are none.
abbrev pub made_bytes : List Decl → List ℕ
made_bytes [] = []
made_bytes (cube ∷ cubes) = eight_bytes (length (cubes_text (cube ∷ cubes))) ++ cubes_text (cube ∷ cubes)

-- The number of cubes, the new ones, and of each cube what the round has.
abbrev pub payload_bytes : List Decl → Round → List ℕ
payload_bytes before round =
    eight_bytes (length before + length round.made) ++ (made_bytes round.made
    ++ flat_map (λ c. cube_bytes c.0 c.1) (zip (before ++ round.made) round.cubes))

-- The epoch, the one before it, and the payload, its length before it.
abbrev pub body_bytes : List Decl → Round → List ℕ
body_bytes before round =
    eight_bytes round.epoch ++ (eight_bytes round.from
    ++ (eight_bytes (length (payload_bytes before round)) ++ payload_bytes before round))

-- Bytes with their digest behind them.
abbrev pub with_digest : (List ℕ → List ℕ) → List ℕ → List ℕ
with_digest digest bytes = bytes ++ digest bytes

-- A round behind these cubes.
unfoldable pub round_bytes : (List ℕ → List ℕ) → List Decl → Round → List ℕ
round_bytes digest before round = with_digest digest (body_bytes before round)
