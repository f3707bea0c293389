-- What a round has of a brick, and the rows that each entry of it appended.
-- Source: AOSI (ICDE 2018), the epochs vector.
use Rattle.std.specs.Prelude.{ℕ, List, [], ◌∷◌}
use Rattle.cube_values.specs.declared.entry.Entry.{Entry}
use Rattle.cube_values.specs.declared.entry.Entry.TheVariants.{Run, Mark}
use Rattle.cube_values.specs.declared.row.CodedRow.{CodedRow}
use Rattle.cube_values.specs.Batches.{rows_between}

-- The number of a brick, some entries of its vector, and the rows that these appended.
pub record BrickPart : Type 0 where
  pub brick : ℕ
  pub entries : List Entry
  pub rows : List CodedRow

-- An entry with the rows that it appended: none for a mark.
pub record EntryRows : Type 0 where
  pub entry : Entry
  pub rows : List CodedRow

-- The entries behind so many of the rows, each with the rows that it appended.
abbrev pub entries_with_rows : ℕ → List CodedRow → List Entry → List EntryRows
entries_with_rows from rows [] = []
entries_with_rows from rows (Run epoch end ∷ entries) =
    record { entry = Run epoch end; rows = rows_between from end rows } ∷ entries_with_rows end rows entries
entries_with_rows from rows (Mark epoch at ∷ entries) =
    record { entry = Mark epoch at; rows = [] } ∷ entries_with_rows from rows entries
