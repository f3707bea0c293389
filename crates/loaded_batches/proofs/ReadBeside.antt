-- A batch that was read while the rows before it were appended, once these were fetched too.
use Rattle.std.proofs.Common.{◌≡◌, ◌∙◌, ◌≤◌, ℕ, Bool, false, true, List, [], All, Result, Ok, Err, IfOk, OnOk, OnErr, sym, subst}
use mathlib.Core.List.{IsPrefix}
use Rattle.core_program.specs.CoreFits.{CoreEntry}
use Rattle.csv_load.specs.Loads.{LoadState}
use Rattle.cube_core.specs.declared.cell.CoreCell.{CoreCell}
use Rattle.cube_language.specs.declared.decl.Decl.{Decl}
use Rattle.cube_values.specs.declared.row.CodedRow.{CodedRow}
use Rattle.cube_values.specs.declared.snapshot.Snapshot.{Snapshot}
use Rattle.linked_shards.specs.declared.cell.CoreShard.{CoreShard}
use Rattle.core_names.specs.KnownNumbers.{HasToldNumber}
use Rattle.row_encoding.specs.CodedInserts.{HasNumbers}
use Rattle.row_encoding.specs.CodedLoads.{BatchHasEnded, LoadGoesOn}
use Rattle.row_encoding.specs.declared.load.BadRecords.{BadRecords}
use Rattle.row_encoding.specs.declared.load.BatchEnd.{BatchEnd}
use Rattle.row_encoding.specs.declared.load.BatchEnd.TheVariants as batch_is
use Rattle.session_batches.specs.PutRows.{HoldsAfterPut}
use Rattle.session_batches.specs.declared.answers.PutEnd.{PutEnd}
use Rattle.session_batches.specs.declared.answers.PutEnd.TheVariants as put
use Rattle.loaded_batches.specs.LoadFronts.{HasTakenSoFar, HasTooManyBad, HoldsAfterReading, IsAfterReading, IsReadingOf, IsReadingOfRows, TakesInTheEnd}
use Rattle.loaded_batches.specs.declared.turns.Reading.{Reading}
use Rattle.loaded_batches.proofs.HeldWriters.{open-after-put}
use Rattle.loaded_batches.proofs.ToldRows.{numbers-still}
use Rattle.loaded_batches.proofs.TakenRecords.{batch-full, batch-last, batch-many, may-leave-before, taken-still}

-- Something was read just where records ended somehow.
pub read-ended : {E F : Type 0} (P : Type 0) (ended : Result BatchEnd E) (p : PutEnd) (result : Result Reading F)
    → IfOk result (IsReadingOf ended p) → OnOk ended P → OnOk result P
read-ended P (Ok e) p (Ok r) is h = h
read-ended P (Err e) p (Ok r) is h = absurd is
read-ended P ended p (Err e) is h = tt

module _ (cells : List (CoreCell CoreShard)) (caller session : ℕ) (now : List CoreEntry) (writer : Snapshot) where
  abbrev Held : Reading → Type 0
  Held r = HoldsAfterReading cells caller session now writer r

  held-rows : (last : Bool) (p : PutEnd) (r : Reading) → IsReadingOfRows last p r
      → HoldsAfterPut cells caller session now writer p → Held r
  held-rows last put.Done r is h = subst Held (sym is) h
  held-rows last (put.ShardFull shard rows) r is h =
      subst Held (sym is) (open-after-put cells caller session now writer (put.ShardFull shard rows) h)
  held-rows last (put.OutOfMemory shard) r is h = absurd is

  pub held-after : {E F : Type 0} (ended : Result BatchEnd E) (p : PutEnd) (result : Result Reading F)
      → IfOk result (IsReadingOf ended p) → HoldsAfterPut cells caller session now writer p → IfOk result Held
  held-after (Ok batch_is.TooMany) p (Ok r) is h =
      subst Held (sym is) (open-after-put cells caller session now writer p h)
  held-after (Ok batch_is.Full) p (Ok r) is h = held-rows false p r is h
  held-after (Ok batch_is.End) p (Ok r) is h = held-rows true p r is h
  held-after (Err e) p (Ok r) is h = absurd is
  held-after ended p (Err e) is h = tt

module _ (cells : List (CoreCell CoreShard)) (caller place : ℕ) (d : Decl) (allowed : ℕ) (mid now : List CoreEntry)
    (more : IsPrefix mid now) (start load : LoadState) (before bad : BadRecords) (rows : List CodedRow)
    (goes : LoadGoesOn start load) (counted : bad.count ≤ load.number) where
  abbrev Read : Reading → Type 0
  Read r = IsAfterReading cells caller place d allowed now start load before bad rows r

  read-rows : (last : Bool) (p : PutEnd) (r : Reading) → IsReadingOfRows last p r
      → HasTakenSoFar cells caller place d allowed mid start load before bad rows
      → (last ≡ true → load.left ≡ []) → Read r
  read-rows last put.Done r is taken left =
      subst Read (sym is) (taken-still cells caller place d allowed mid now more start load before bad rows taken, left)
  read-rows last (put.ShardFull shard count) r is taken left =
      subst Read (sym is) (record {
        rows = rows;
        taken = taken-still cells caller place d allowed mid now more start load before bad rows taken;
      })
  read-rows last (put.OutOfMemory shard) r is taken left = absurd is

  many-still : HasTooManyBad cells caller place d allowed mid start load before bad
      → HasTooManyBad cells caller place d allowed now start load before bad
  many-still h = record {
    goes = h.goes;
    many = h.many;
    rows = h.rows;
    taken = λ names may. h.taken names (may-leave-before cells caller place d allowed mid now more names may);
  }

  pub read-after : {E F : Type 0} (ended : Result BatchEnd E) (p : PutEnd) (result : Result Reading F)
      → IfOk result (IsReadingOf ended p) → IfOk ended (BatchHasEnded allowed load bad rows)
      → IfOk ended (λ e. TakesInTheEnd cells caller place d allowed mid start load before bad rows e)
      → IfOk result Read
  read-after (Ok batch_is.TooMany) p (Ok r) is over takes =
      subst Read (sym is)
      (many-still (batch-many cells caller place d allowed mid start load before bad rows goes counted over takes))
  read-after (Ok batch_is.Full) p (Ok r) is over takes =
      read-rows false p r is
      (batch-full cells caller place d allowed mid start load before bad rows goes counted over takes)
      (λ same. absurd (let e = same in cc))
  read-after (Ok batch_is.End) p (Ok r) is over takes =
      read-rows true p r is
      (batch-last cells caller place d allowed mid start load before bad rows goes counted over takes) (λ same. over.0)
  read-after (Err e) p (Ok r) is over takes = absurd is
  read-after ended p (Err e) is over takes = tt

-- The same by what is known where records ended somehow.
pub read-by : {E F : Type 0} (cells : List (CoreCell CoreShard)) (caller place : ℕ) (d : Decl) (allowed : ℕ)
    (mid now : List CoreEntry) → IsPrefix mid now → (start load : LoadState) (before bad : BadRecords)
    (rows : List CodedRow) (ended : Result BatchEnd E) (p : PutEnd) (result : Result Reading F)
    → IfOk result (IsReadingOf ended p) → OnOk ended (LoadGoesOn start load) → OnOk ended (bad.count ≤ load.number)
    → IfOk ended (BatchHasEnded allowed load bad rows)
    → IfOk ended (λ e. TakesInTheEnd cells caller place d allowed mid start load before bad rows e)
    → IfOk result (IsAfterReading cells caller place d allowed now start load before bad rows)
read-by {E} {F} cells caller place d allowed mid now more start load before bad rows (Ok e) p result is goes counted over takes =
    read-after cells caller place d allowed mid now more start load before bad rows goes counted {E = E} {F = F} (Ok e) p
    result is over takes
read-by {E} {F} cells caller place d allowed mid now more start load before bad rows (Err e) p (Ok r) is goes counted over takes =
    absurd is
read-by {E} {F} cells caller place d allowed mid now more start load before bad rows (Err e) p (Err f) is goes counted over takes =
    tt

pub told-still : {F : Type 0} (place : ℕ) (own now : List CoreEntry) (d : Decl) (rows : List CodedRow)
    → IsPrefix own now → (result : Result Reading F)
    → OnOk result (All (HasNumbers (HasToldNumber own place) d) rows)
    → OnOk result (All (HasNumbers (HasToldNumber now place) d) rows)
told-still place own now d rows more (Ok r) h = numbers-still place own now d rows more h
told-still place own now d rows more (Err e) h = tt

pub width-still : {F : Type 0} (new old wide : ℕ) (result : Result Reading F) → old ≡ wide → OnOk result (new ≡ old)
    → OnOk result (new ≡ wide)
width-still new old wide (Ok r) same h = h ∙ same
width-still new old wide (Err e) same h = tt

-- What holds in any case holds where there was an error.
pub on-err : {T E : Type 0} (P : Type 0) (result : Result T E) → P → OnErr result P
on-err P (Ok r) h = tt
on-err P (Err e) h = h
