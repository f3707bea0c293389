-- What taking a store answers: a new one, or one that two files stand for.
-- Source: this project's own.
use Rattle.std.specs.Prelude.{◌≡◌, ◌⊎◌, ℕ, Bool, true, false, List, Option, Result, Ok, Err, IfOk}
use Rattle.cube_language.specs.declared.decl.Decl.{Decl}
use Rattle.cube_rounds.specs.Stands.{Kept, kept_of_cubes, Stands}
use Rattle.cube_values.specs.declared.call_error.CallError.{CallError}
use Rattle.cube_values.specs.declared.call_error.CallError.TheVariants.{Fault, NoMemory}
use Rattle.outside_disk.specs.Views.{View}
use Rattle.round_fields.specs.Canonical.{TellsCubes}
use Rattle.round_store.specs.States.{HoldsForFiles}
use Rattle.sha2.specs.Sha256.{sha256}
use Rattle.store_reading.specs.Pairs.{PairContent, pair_content, pair_from}
use Rattle.store_reading.specs.declared.fault.PairFault.{PairFault}
use Rattle.opened_store.specs.declared.fault.StoreFault.{StoreFault}
use Rattle.opened_store.specs.declared.fault.StoreFault.TheVariants.{DiskFault}
use Rattle.opened_store.specs.declared.reopening.OpenedStore.{OpenedStore}
use Rattle.opened_store.specs.Causes.{FitsRun, IsUnfit, HasCause}

-- What taking a store answers.
abbrev pub StoreAnswer : Type 0
StoreAnswer = Result OpenedStore (CallError StoreFault)

-- An answer by what reading the two files gives: this and nothing else is opened, and a fault has its cause.
abbrev pub ShowsReading : List Decl → Result PairContent PairFault → StoreAnswer → Type 0
ShowsReading cubes read (Ok opened) =
    (read ≡ Ok (pair_content opened.kept opened.store.place)) × FitsRun cubes opened.kept
ShowsReading cubes read (Err (Fault fault)) = HasCause cubes read fault
ShowsReading cubes read (Err NoMemory) = Unit {0}

-- An answer where the two files stand for what is kept: it is opened, or a run does not go on from it.
abbrev pub ShowsKept : List Decl → Kept → StoreAnswer → Type 0
ShowsKept cubes kept (Ok opened) = opened.kept ≡ kept
ShowsKept cubes kept (Err (Fault fault)) = (fault ≡ DiskFault) ⊎ IsUnfit cubes kept fault
ShowsKept cubes kept (Err NoMemory) = Unit {0}

-- An answer for two files. What is opened they stand for.
pub record ShowsFiles (cubes : List Decl) (answer : StoreAnswer) (first second : List ℕ) : Type 0 where
  pub exact : (told : List ℕ → Option (List Decl)) → TellsCubes told
      → ShowsReading cubes (pair_from sha256 told first second) answer
  pub only : (kept : Kept) → Stands sha256 kept first second → ShowsKept cubes kept answer
  pub stands : IfOk answer (λ opened. Stands sha256 opened.kept first second)

-- A new store keeps the cubes and nothing else. It is refused only by a disk.
abbrev pub CreatesStore : List Decl → StoreAnswer → Type 0
CreatesStore cubes (Ok opened) = opened.kept ≡ kept_of_cubes cubes
CreatesStore cubes (Err (Fault fault)) = fault ≡ DiskFault
CreatesStore cubes (Err NoMemory) = Unit {0}

-- A new store is created, or one is opened that two disks had before.
abbrev pub TakesStore : Bool → List Decl → View → View → StoreAnswer → Type 0
TakesStore true cubes first second answer = CreatesStore cubes answer
TakesStore false cubes first second answer = HoldsForFiles first second (ShowsFiles cubes answer)
