-- One read of a source.
use Rattle.std.proofs.Common.{◌≡◌, ℕ, Bool, true, false, cond, List, [], Option, Result, Ok, Err, refl}
use Rattle.std.specs.Prelude.{IfOk, OnOk}
use Rattle.csv.specs.Reading.{ReadRecord, Ready, has_failed, is_flexible, reader_state, reader_trim, source_of, took_first}
use Rattle.csv.specs.declared.error.Error.{Error}
use Rattle.csv.specs.declared.reader.Reader.{Reader}
use Rattle.csv.specs.declared.reader.Trim.TheVariants as trim
use Rattle.csv_load.specs.FileRecords.{RecordFields}
use Rattle.csv_load.specs.Sources.{IsBetween, RecordSource, TakesNext, gave_record, known_records}
use Rattle.csv_load.proofs.RecordsLeft.{read_none, read_on, read_some}

-- what a read says of the reader before and after it
pub record HasRead {R : Type 0} (remaining : R → Option (List ℕ)) (old new : Reader R) (fields : RecordFields)
    (found : Result Bool Error) : Type 0 where
  pub between : IsBetween remaining old
  pub reads : IfOk found (λ got. (reader_trim old ≡ trim.None) → Ready old → ReadRecord remaining old new got fields)
  pub ready : (reader_trim old ≡ trim.None) → OnOk found (took_first new ≡ true)
  pub flexible : OnOk found (is_flexible new ≡ is_flexible old)
  pub sound : OnOk found (has_failed new ≡ has_failed old)

pub stays_between : {R : Type 0} (remaining : R → Option (List ℕ)) (old new : Reader R) (fields : RecordFields)
    (found : Result Bool Error) → HasRead remaining old new fields found → gave_record found ≡ true
    → IsBetween remaining new
stays_between remaining old new fields (Ok true) h live =
    read_on remaining old new fields h.between (h.reads h.between.plain h.between.ready)
    (h.ready h.between.plain) h.flexible h.sound
stays_between remaining old new fields (Ok false) h live = absurd cc
stays_between remaining old new fields (Err e) h live = absurd cc

-- the source that a reader with its last record is
abbrev pub source_with : {R : Type 0} → (R → Option (List ℕ)) → Reader R → RecordFields → Bool → RecordSource
source_with remaining reader fields live =
    record { fields = fields; left = cond live (known_records (reader_state reader) (source_of remaining reader)) [] }

pub took : {R : Type 0} (remaining : R → Option (List ℕ)) (old new : Reader R) (before fields : RecordFields)
    (got : Bool) → HasRead remaining old new fields (Ok got)
    → TakesNext (source_with remaining old before true) (source_with remaining new fields got) got
took remaining old new before fields true h =
    read_some remaining old new fields h.between (h.reads h.between.plain h.between.ready)
took remaining old new before fields false h =
    (read_none remaining old new fields h.between (h.reads h.between.plain h.between.ready), refl)
