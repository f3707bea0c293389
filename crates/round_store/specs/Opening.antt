-- What opening a store answers.
-- Source: this project's own.
use Rattle.std.specs.Prelude.{◌≡◌, ℕ, List, Option, Result, Ok, Err, IfOk, MatchResult}
use Rattle.cube_language.specs.declared.decl.Decl.{Decl}
use Rattle.cube_rounds.specs.Stands.{Kept, Stands}
use Rattle.cube_values.specs.declared.call_error.CallError.{CallError}
use Rattle.cube_values.specs.declared.call_error.CallError.TheVariants.{Fault, NoMemory}
use Rattle.store_reading.specs.declared.fault.PairFault.{PairFault}
use Rattle.round_fields.specs.Canonical.{TellsCubes}
use Rattle.sha2.specs.Sha256.{sha256}
use Rattle.store_reading.specs.Pairs.{PairContent, pair_content, pair_from}
use Rattle.round_store.specs.declared.fault.OpenFault.{OpenFault}
use Rattle.round_store.specs.declared.fault.OpenFault.TheVariants.{Pair, Disk}
use Rattle.round_store.specs.States.{StoreState}

-- What opening answers.
abbrev pub OpenAnswer : Type 0
OpenAnswer = Result (StoreState × Kept) (CallError OpenFault)

-- An answer is what reading the two files gives, unless a disk failed or memory ran out.
abbrev pub OpensAs : OpenAnswer → Result PairContent PairFault → Type 0
OpensAs (Ok opened) read = read ≡ Ok (pair_content opened.1 opened.0.place)
OpensAs (Err (Fault (Pair fault))) read = read ≡ Err fault
OpensAs (Err (Fault Disk)) read = Unit {0}
OpensAs (Err NoMemory) read = Unit {0}

-- An answer is what reading these two files gives, unless a disk failed or memory ran out.
abbrev pub OpensFilesAs : OpenAnswer → List ℕ → List ℕ → Type 0
OpensFilesAs result first second =
    (told : List ℕ → Option (List Decl)) → TellsCubes told → OpensAs result (pair_from sha256 told first second)

-- What is answered besides refusals of the files: that memory ran out or a disk failed.
abbrev pub IsNoRefusal : CallError OpenFault → Type 0
IsNoRefusal (Fault (Pair fault)) = ⊥
IsNoRefusal (Fault Disk) = Unit {0}
IsNoRefusal NoMemory = Unit {0}

-- An answer for two files is what reading them gives. They stand for what is opened, and where they stand for
-- anything, this is opened or there is no refusal.
pub record OpensFiles (answer : OpenAnswer) (first second : List ℕ) : Type 0 where
  pub exact : OpensFilesAs answer first second
  pub stands : IfOk answer (λ x. Stands sha256 x.1 first second)
  pub only : (kept : Kept) → Stands sha256 kept first second → MatchResult answer (λ x. x.1 ≡ kept) IsNoRefusal
