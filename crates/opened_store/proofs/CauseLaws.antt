-- What an answer shows of the two files.
use Rattle.std.proofs.Common.{◌≡◌, ℕ, Bool, true, false, List, Result, Ok, Err, inl, inr, refl, sym, subst}
use Rattle.cube_language.specs.declared.decl.Decl.{Decl}
use Rattle.cube_rounds.specs.Stands.{Kept}
use Rattle.cube_values.specs.declared.call_error.CallError.TheVariants as errors
use Rattle.outside_disk.specs.Views.{View}
use Rattle.round_store.specs.States.{StoreState, HoldsForFiles}
use Rattle.round_store.specs.Opening.{OpensFiles}
use Rattle.round_store.specs.declared.fault.OpenFault.{OpenFault}
use Rattle.round_store.specs.declared.fault.OpenFault.TheVariants.{Pair, Disk}
use Rattle.round_store.proofs.OpenLaws.{fails_to_open}
use Rattle.sha2.specs.Sha256.{sha256}
use Rattle.store_reading.specs.Pairs.{PairContent, pair_content, pair_from}
use Rattle.store_reading.specs.declared.fault.PairFault.{PairFault}
use Rattle.store_reading.specs.declared.fault.PairFault.TheVariants as pair
use Rattle.opened_store.specs.declared.fault.StoreFault.{StoreFault}
use Rattle.opened_store.specs.declared.fault.StoreFault.TheVariants.{NotAStore, Version, Damaged, DamagedRound, TwoGenerations, GenerationsSpent, SchemaDiffers, EpochsSpent, ShardFull, DiskFault}
use Rattle.opened_store.specs.declared.reopening.OpenedStore.{OpenedStore}
use Rattle.opened_store.specs.Causes.{fault_of_pair, IsUnfit, HasCause}
use Rattle.opened_store.specs.Opened.{StoreAnswer, ShowsFiles, TakesStore}
use Rattle.opened_store.specs.Steps.{fault_of_open, IsGivenFor}

-- A fault of two files is that of their reading.
pair_cause : (cubes : List Decl) (read : Result PairContent PairFault) (fault : PairFault) → read ≡ Err fault → HasCause cubes read (fault_of_pair fault)
pair_cause cubes read pair.NotAStore e = e
pair_cause cubes read (pair.Version found) e = e
pair_cause cubes read (pair.Damaged at) e = e
pair_cause cubes read (pair.DamagedRound round kept found) e = e
pair_cause cubes read (pair.TwoGenerations generation) e = e
pair_cause cubes read (pair.GenerationsSpent generation) e = e

-- So is one of what they keep.
unfit_cause : (cubes : List Decl) (read : Result PairContent PairFault) (content : PairContent) → read ≡ Ok content → (fault : StoreFault) → IsUnfit cubes content.kept fault → HasCause cubes read fault
unfit_cause cubes read content e NotAStore unfit = absurd unfit
unfit_cause cubes read content e (Version found) unfit = absurd unfit
unfit_cause cubes read content e (Damaged at) unfit = absurd unfit
unfit_cause cubes read content e (DamagedRound round kept found) unfit = absurd unfit
unfit_cause cubes read content e (TwoGenerations generation) unfit = absurd unfit
unfit_cause cubes read content e (GenerationsSpent generation) unfit = absurd unfit
unfit_cause cubes read content e (SchemaDiffers place) unfit = (content, e, unfit)
unfit_cause cubes read content e (EpochsSpent epoch) unfit = (content, e, unfit)
unfit_cause cubes read content e (ShardFull shard rows) unfit = absurd unfit
unfit_cause cubes read content e DiskFault unfit = absurd unfit

-- What comes of a store that was opened.
given_shows : (cubes : List Decl) (first second : List ℕ) (store : StoreState) (kept : Kept) (answer : StoreAnswer) → IsGivenFor cubes store kept answer
    → OpensFiles (Ok (store, kept)) first second → ShowsFiles cubes answer first second
given_shows cubes first second store kept (Ok opened) given opens =
    subst (λ (o : OpenedStore). ShowsFiles cubes (Ok o) first second) (sym given.0)
    (record { exact = λ told tells. (opens.exact told tells, given.1); only = opens.only; stands = opens.stands })
given_shows cubes first second store kept (Err (errors.Fault fault)) given opens = record {
  exact = λ told tells. unfit_cause cubes (pair_from sha256 told first second) (pair_content kept store.place) (opens.exact told tells) fault given;
  only = λ k other. inr (subst (λ (x : Kept). IsUnfit cubes x fault) (opens.only k other) given);
  stands = tt;
}
given_shows cubes first second store kept (Err errors.NoMemory) given opens = absurd given

-- What comes of two files that stand for nothing.
refused_shows : (cubes : List Decl) (first second : List ℕ) (fault : PairFault) → OpensFiles (Err (errors.Fault (Pair fault))) first second
    → ShowsFiles cubes (Err (errors.Fault (fault_of_pair fault))) first second
refused_shows cubes first second fault opens = record {
  exact = λ told tells. pair_cause cubes (pair_from sha256 told first second) fault (opens.exact told tells);
  only = λ k stands. absurd (opens.only k stands);
  stands = tt;
}

-- Want of memory shows nothing, and a disk that failed neither.
memory_shows : (cubes : List Decl) (first second : List ℕ) → ShowsFiles cubes (Err errors.NoMemory) first second
memory_shows cubes first second = record { exact = λ told tells. tt; only = λ k stands. tt; stands = tt }

disk_shows : (cubes : List Decl) (first second : List ℕ) → ShowsFiles cubes (Err (errors.Fault DiskFault)) first second
disk_shows cubes first second = record { exact = λ told tells. tt; only = λ k stands. inl refl; stands = tt }

-- What holds for two files of two disks holds of what follows from it.
files_shown : (first second : View) (P Q : List ℕ → List ℕ → Type 0) → HoldsForFiles first second P → ((f g : List ℕ) → P f g → Q f g) → HoldsForFiles first second Q
files_shown first second P Q has more = record {
  first_file = has.first_file;
  second_file = has.second_file;
  first_told = has.first_told;
  second_told = has.second_told;
  holds = more has.first_file has.second_file has.holds;
}

pub given : (cubes : List Decl) (first second : View) (store : StoreState) (kept : Kept) (answer : StoreAnswer) → IsGivenFor cubes store kept answer
    → HoldsForFiles first second (OpensFiles (Ok (store, kept))) → HoldsForFiles first second (ShowsFiles cubes answer)
given cubes first second store kept answer is has =
    files_shown first second (OpensFiles (Ok (store, kept))) (ShowsFiles cubes answer) has (λ f g opens. given_shows cubes f g store kept answer is opens)

refused_for : (cubes : List Decl) (fault : OpenFault) (f g : List ℕ) → OpensFiles (Err (errors.Fault fault)) f g → ShowsFiles cubes (Err (errors.Fault (fault_of_open fault))) f g
refused_for cubes (Pair fault) f g opens = refused_shows cubes f g fault opens
refused_for cubes Disk f g opens = disk_shows cubes f g

pub refused : (cubes : List Decl) (first second : View) (fault : OpenFault) → HoldsForFiles first second (OpensFiles (Err (errors.Fault fault)))
    → HoldsForFiles first second (ShowsFiles cubes (Err (errors.Fault (fault_of_open fault))))
refused cubes first second fault has =
    files_shown first second (OpensFiles (Err (errors.Fault fault))) (ShowsFiles cubes (Err (errors.Fault (fault_of_open fault)))) has (refused_for cubes fault)

pub without_memory : (cubes : List Decl) (first second : View) → HoldsForFiles first second (OpensFiles (Err errors.NoMemory)) → HoldsForFiles first second (ShowsFiles cubes (Err errors.NoMemory))
without_memory cubes first second has =
    files_shown first second (OpensFiles (Err errors.NoMemory)) (ShowsFiles cubes (Err errors.NoMemory)) has (λ f g opens. memory_shows cubes f g)

-- A disk that failed, or want of memory, is an answer for a new store and for an old one.
pub failed_takes : (is_new : Bool) (cubes : List Decl) (first second : View) → TakesStore is_new cubes first second (Err (errors.Fault DiskFault))
failed_takes true cubes first second = refl
failed_takes false cubes first second = refused cubes first second Disk (fails_to_open first second (errors.Fault Disk) tt)

pub memory_takes : (is_new : Bool) (cubes : List Decl) (first second : View) → TakesStore is_new cubes first second (Err errors.NoMemory)
memory_takes true cubes first second = tt
memory_takes false cubes first second = without_memory cubes first second (fails_to_open first second errors.NoMemory tt)
