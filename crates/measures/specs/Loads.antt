-- The checksums of a file whose records are read and checked.
use Rattle.std.specs.Prelude.{◌≡◌, ℕ, ◌%◌, ◌^◌, Bool, List, filter, length, is_none}
use Rattle.cube_language.specs.declared.decl.Decl.{Decl}
use Rattle.csv_load.specs.FileRecords.{RecordFields, record_fault}
use Rattle.csv_load.specs.Loads.{LoadState, TakesRecord}

-- Of records: how many there are, in 64 bits.
abbrev pub records_sum : List RecordFields → ℕ
records_sum records = length records % 2 ^ 64

-- A record is a row of a cube.
abbrev pub is_row : Decl → RecordFields → Bool
is_row decl fields = is_none (record_fault decl fields)

-- Of records and a cube: how many are rows, in 64 bits.
abbrev pub rows_sum : Decl → List RecordFields → ℕ
rows_sum decl records = length (filter (is_row decl) records) % 2 ^ 64

-- A load takes its next record, which is a row or not.
abbrev pub TakesRow : LoadState → LoadState → Bool → Type 0
TakesRow old new found = TakesRecord old new × (found ≡ is_row new.decl new.fields)
