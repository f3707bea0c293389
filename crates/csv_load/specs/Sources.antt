-- What a reader of records has read last, and what it has left.
use Rattle.std.specs.Prelude.{◌≡◌, ℕ, ◌+◌, Bool, true, false, List, [], ◌∷◌, length, Option, Some, None, IsSome, Result, Ok, Err}
use Rattle.std.specs.Global.{Vec}
use Rattle.std.specs.Io.Cursor.{cursor_remaining}
use Rattle.std.specs.declared.io.impls.Cursor.{Cursor}
use Rattle.csv.specs.Machine.{ends_at_end}
use Rattle.csv.specs.Reading.{Ready, default_config, has_failed, is_flexible, reader_config, reader_state, reader_trim, records_from, source_of}
use Rattle.csv.specs.declared.parser.State.{State}
use Rattle.csv.specs.declared.reader.Reader.{Reader}
use Rattle.csv.specs.declared.reader.Trim.TheVariants as trim
use Rattle.csv_load.specs.FileRecords.{RecordFields}

-- The bytes that a cursor over a list of bytes has left.
abbrev pub remaining_in : Cursor (Vec ℕ) → Option (List ℕ)
remaining_in cursor = cursor_remaining (λ v. Some v.items) cursor

-- The fields read last, and the records that are left.
pub record RecordSource : Type 0 where
  pub fields : RecordFields
  pub left : List RecordFields

-- The records of bytes from a state of the library's machine on.
abbrev pub records_left : State → List ℕ → List RecordFields
records_left state bytes = records_from default_config (length bytes + 1) state bytes

-- Those of bytes that are known.
abbrev pub known_records : State → Option (List ℕ) → List RecordFields
known_records state None = []
known_records state (Some bytes) = records_left state bytes

-- The reader is set up for flexible records without a header, stands between two of them, and its bytes are known.
pub record IsBetween {R : Type 0} (remaining : R → Option (List ℕ)) (reader : Reader R) : Type 0 where
  pub config : reader_config reader ≡ default_config
  pub plain : reader_trim reader ≡ trim.None
  pub ready : Ready reader
  pub flexible : is_flexible reader ≡ true
  pub sound : has_failed reader ≡ false
  pub known : IsSome (source_of remaining reader)
  pub between : ends_at_end (reader_state reader) ≡ false

-- A source takes its next record, or has none left.
abbrev pub TakesNext : RecordSource → RecordSource → Bool → Type 0
TakesNext old new true = old.left ≡ new.fields ∷ new.left
TakesNext old new false = (old.left ≡ []) × (new.left ≡ [])

-- A read gave a record, and neither the end nor an error.
abbrev pub gave_record : {E : Type 0} → Result Bool E → Bool
gave_record (Ok found) = found
gave_record (Err error) = false
