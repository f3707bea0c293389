-- The rows that rounds keep of a brick.
-- Source: AOSI (ICDE 2018), the epochs vector; that a mark hides by epoch and place is this project's own.
use Rattle.std.specs.Prelude.{ℕ, ◌+◌, suc, ◌==◌, List, [], ◌∷◌, ◌++◌, length, map, filter, slice_get, if◌then◌else◌}
use Rattle.std.specs.List.{flat_map}
use Rattle.std.specs.Option.{option_map_or}
use Rattle.cube_values.specs.declared.entry.Entry.{Entry}
use Rattle.cube_values.specs.declared.row.CodedRow.{CodedRow}
use Rattle.cube_values.specs.declared.snapshot.Snapshot.{Snapshot}
use Rattle.cube_values.specs.EpochsVector.{rows_after, with_rows_after, sees_row}
use Rattle.cube_rounds.specs.declared.round.Round.{Round}
use Rattle.cube_rounds.specs.Bricks.{BrickPart}

-- What a round has of a brick of the cube at this place.
abbrev pub parts_in : ℕ → ℕ → Round → List BrickPart
parts_in place brick round =
    option_map_or (λ cube. filter (λ b. b.brick == brick) cube.bricks) (slice_get round.cubes place) []

-- What rounds have of a brick, in order.
abbrev pub parts_of_brick : ℕ → ℕ → List Round → List BrickPart
parts_of_brick place brick rounds = flat_map (parts_in place brick) rounds

-- Entries with so many rows before them.
abbrev pub entries_behind : ℕ → List Entry → List Entry
entries_behind rows entries = map (λ e. with_rows_after e (rows + rows_after e)) entries

-- The entries of parts one after the other, behind so many rows.
abbrev pub entries_joined : ℕ → List BrickPart → List Entry
entries_joined rows [] = []
entries_joined rows (b ∷ parts) = entries_behind rows b.entries ++ entries_joined (rows + length b.rows) parts

-- The rows of parts one after the other.
abbrev pub rows_joined : List BrickPart → List CodedRow
rows_joined parts = flat_map (λ b. b.rows) parts

-- Of the rows from place i on, those that a snapshot sees by the entries.
abbrev pub rows_seen : Snapshot → List Entry → ℕ → List CodedRow → List CodedRow
rows_seen s entries i [] = []
rows_seen s entries i (row ∷ rows) =
    if sees_row s entries i then row ∷ rows_seen s entries (suc i) rows else rows_seen s entries (suc i) rows

-- The rows that rounds keep of a brick for a snapshot, which is the reader at the last round's epoch: those of the
-- parts joined that no mark hides.
abbrev pub kept_rows_of_brick : Snapshot → ℕ → ℕ → List Round → List CodedRow
kept_rows_of_brick s place brick rounds =
    let parts = parts_of_brick place brick rounds in rows_seen s (entries_joined 0 parts) 0 (rows_joined parts)
