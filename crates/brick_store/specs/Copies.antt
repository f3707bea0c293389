-- The part of a brick that some epochs made, as a round has it.
-- Source: AOSI (ICDE 2018), flush rounds; that places are counted among the rows of these epochs is this project's own.
use Rattle.std.specs.Prelude.{ℕ, ◌+◌, Bool, ◌&&◌, nat_lt, nat_le, List, [], length, filter, fold}
use Rattle.std.specs.List.{flat_map}
use Rattle.cube_values.specs.declared.entry.Entry.{Entry}
use Rattle.cube_values.specs.declared.row.CodedRow.{CodedRow}
use Rattle.cube_values.specs.EpochsVector.{maker, rows_of, vector_with_entry, with_rows_after}
use Rattle.cube_rounds.specs.Bricks.{BrickPart, EntryRows, entries_with_rows}
use Rattle.brick_store.specs.Bricks.{BrickState}

-- An entry is of an epoch above one and not above another.
abbrev pub is_of_epochs : ℕ → ℕ → Entry → Bool
is_of_epochs from to entry = nat_lt from (maker entry) && nat_le (maker entry) to

-- Of entries with their rows, those of such epochs.
abbrev pub entries_of_epochs : ℕ → ℕ → List EntryRows → List EntryRows
entries_of_epochs from to entries = filter (λ e. is_of_epochs from to e.entry) entries

-- The rows of entries, one after another.
abbrev pub rows_of_entries : List EntryRows → List CodedRow
rows_of_entries entries = flat_map (λ e. e.rows) entries

-- The entries with one more at the end, its rows counted after theirs; neighbours become one.
abbrev pub vector_with_rows : List Entry → EntryRows → List Entry
vector_with_rows entries e = vector_with_entry entries (with_rows_after e.entry (rows_of entries + length e.rows))

-- The entries one after another.
abbrev pub vector_of_entries : List EntryRows → List Entry
vector_of_entries entries = fold vector_with_rows [] entries

-- What a round from one epoch up to another has of a brick: the entries of its epochs and their rows.
abbrev pub round_part : ℕ → ℕ → BrickState → BrickPart
round_part from to b =
    let entries = entries_of_epochs from to (entries_with_rows 0 b.rows b.entries) in
    record { brick = b.home.number; entries = vector_of_entries entries; rows = rows_of_entries entries }
