-- How a statement may end: done, or with the first refusal in the order of the tests; and in the place of that, where
-- memory, a file, a shard or the store fails.
-- Source: this project's own.
use Rattle.std.specs.Prelude.{◌≡◌, ℕ, Bool, true, false, ◌==◌, nat_lt, List, [], ◌∷◌, length, Option, Some, None, if◌then◌else◌}
use Rattle.std.specs.Option.{option_and_then, option_map, option_or}
use Rattle.cube_language.specs.declared.decl.Decl.{Decl}
use Rattle.cube_language.specs.declared.misfit.Misfit.{Misfit}
use Rattle.cube_language.specs.declared.statement.Statement.{Statement}
use Rattle.cube_language.specs.declared.statement.Statement.TheVariants.{Insert, Load, Begin, Commit, Rollback, Flush, Purge, ShowEpochs, CreateCube, Watch, ShowWatch}
use Rattle.cube_language.specs.Cubes.{schema_fault, first_some}
use Rattle.cube_language.specs.Misfits.{HasMisfit, FitsCube}
use Rattle.cube_journal.specs.declared.journal_entry.JournalEntry.{JournalEntry}
use Rattle.cube_journal.specs.declared.journal_entry.JournalEntry.TheVariants as entry
use Rattle.cube_journal.specs.declared.refusal.Refusal.{Refusal}
use Rattle.cube_journal.specs.declared.refusal.Refusal.TheVariants as refusal
use Rattle.cube_journal.specs.Refusals.{of_misfit}
use Rattle.cube_run.specs.LoadedRows.{first_without_place, load_records, rejections_among}
use Rattle.cube_run.specs.RunRecords.{Sentence, Says, SaysNone, LoadedFile, Missing, TooLarge, Records, Catalog, cube_called, cube_needed, declaration_of, names_of_cube}
use Rattle.cube_run.specs.SessionStates.{Mode, Idle, Open, Aborted, KeptWatch}
use Rattle.cube_run.specs.SessionSteps.{SessionStep}
use Rattle.cube_run.specs.StatementEntries.{Outcome, Done, RefusedWith}

-- What the mode of a session refuses.
abbrev pub refused_when_idle : Statement → Option Refusal
refused_when_idle Commit = Some refusal.NoTransaction
refused_when_idle Rollback = Some refusal.NoTransaction
refused_when_idle s = None

abbrev pub refused_when_open : Statement → Option Refusal
refused_when_open Begin = Some refusal.TransactionOpen
refused_when_open (CreateCube d) = Some refusal.TransactionOpen
refused_when_open s = None

abbrev pub refused_when_aborted : Statement → Option Refusal
refused_when_aborted Rollback = None
refused_when_aborted Flush = None
refused_when_aborted Purge = None
refused_when_aborted ShowEpochs = None
refused_when_aborted s = Some refusal.TransactionAborted

abbrev pub refused_by_mode : Mode → Statement → Option Refusal
refused_by_mode Idle s = refused_when_idle s
refused_by_mode (Open writer) s = refused_when_open s
refused_by_mode (Aborted epoch) s = refused_when_aborted s

-- What the watch of a session refuses.
abbrev pub refused_by_watch : Option KeptWatch → Statement → Option Refusal
refused_by_watch (Some kept) (Watch items cube conds group) = Some refusal.WatchOpen
refused_by_watch None ShowWatch = Some refusal.NoWatch
refused_by_watch watch s = None

-- A statement's entries begin with a Refused of this number.
abbrev pub begins_refused : ℕ → List JournalEntry → Bool
begins_refused code (entry.Refused session statement found ∷ later) = found == code
begins_refused code entries = false

-- The refusals that speak of the list of cubes as it was then are told by the journal, which is legal: that there is no
-- cube of the name,
abbrev pub told_unknown : List JournalEntry → Statement → Option Refusal
told_unknown entries s = if begins_refused 2 entries then option_map refusal.UnknownCube (cube_needed s) else None

-- that there is one of that name,
abbrev pub told_existing : List JournalEntry → Decl → Option Refusal
told_existing entries d = if begins_refused 19 entries then Some (refusal.CubeExists d.name) else None

-- or that there is no place for one more.
abbrev pub told_too_many : List JournalEntry → Option Refusal
told_too_many entries = if begins_refused 21 entries then Some refusal.TooManyCubes else None

-- What refuses a CREATE CUBE: its declaration, and then the list of cubes.
abbrev pub refused_declaration : List JournalEntry → Statement → Option Refusal
refused_declaration entries (CreateCube d) =
    first_some (option_map refusal.BadCube (schema_fault d) ∷ told_existing entries d ∷ told_too_many entries ∷ [])
refused_declaration entries s = None

-- How a statement fails on its cube, or None where it does not.
abbrev pub IsMisfitOn : Option Decl → Statement → Option Misfit → Type 0
IsMisfitOn None s misfit = misfit ≡ None
IsMisfitOn (Some d) s (Some misfit) = HasMisfit d s misfit
IsMisfitOn (Some d) s None = FitsCube d s

abbrev pub IsMisfitOf : Catalog → Sentence → Option Misfit → Type 0
IsMisfitOf catalog (Says s) misfit = IsMisfitOn (option_and_then (cube_called catalog.cubes) (cube_needed s)) s misfit
IsMisfitOf catalog (SaysNone at) misfit = misfit ≡ None

-- The first refusal up to the binding of a statement to its cube, in their order.
abbrev pub bound_refusal : SessionStep → Sentence → Option Misfit → Option Refusal
bound_refusal step (SaysNone at) misfit = Some (refusal.Syntax (record { at = at }))
bound_refusal step (Says s) misfit = first_some (
    refused_by_mode step.state.mode s
    ∷ refused_by_watch step.state.watch s
    ∷ told_unknown step.entries s
    ∷ option_map of_misfit misfit
    ∷ refused_declaration step.entries s
    ∷ [])

-- What refuses a LOAD with its file.
abbrev pub refused_file : Catalog → List ℕ → ℕ → LoadedFile → Option Refusal
refused_file catalog cube reject Missing = Some refusal.NoSuchFile
refused_file catalog cube reject (TooLarge size) = Some (refusal.FileTooLong size)
refused_file catalog cube reject (Records records) =
    let rejected = length (rejections_among (load_records catalog cube reject (Records records))) in
    if nat_lt reject rejected then Some (refusal.TooManyRejected rejected reject) else None

-- The first refusal after the binding: the dictionaries of an INSERT, the file of a LOAD.
abbrev pub data_refusal : Catalog → LoadedFile → Sentence → Option Refusal
data_refusal catalog file (Says (Insert cube rows)) =
    option_map refusal.DictionaryFull
    (first_without_place (declaration_of catalog cube) (names_of_cube catalog cube) rows)
data_refusal catalog file (Says (Load cube path reject)) = refused_file catalog cube reject file
data_refusal catalog file sentence = None

-- The first refusal that the binding of a statement meets, or None.
pub record MeetsAtBinding (catalog : Catalog) (step : SessionStep) (first : Option Refusal) : Type 0 where
  pub misfit : Option Misfit
  pub is_misfit : IsMisfitOf catalog step.sentence misfit
  pub is : bound_refusal step step.sentence misfit ≡ first

-- The first refusal that a statement meets, or None.
pub record Meets (catalog : Catalog) (step : SessionStep) (first : Option Refusal) : Type 0 where
  pub binding : Option Refusal
  pub meets : MeetsAtBinding catalog step binding
  pub is : option_or binding (data_refusal catalog step.file step.sentence) ≡ first

abbrev pub is_load : Sentence → Bool
is_load (Says (Load cube path reject)) = true
is_load sentence = false

abbrev pub stores_rows : Sentence → Bool
stores_rows (Says (Insert cube rows)) = true
stores_rows sentence = is_load sentence

-- How a statement may end.
pub data MayEnd (catalog : Catalog) (step : SessionStep) : Outcome → Type 0 where
  -- with the first refusal that it meets
  refused_first : (r : Refusal) → Meets catalog step (Some r) → MayEnd catalog step (RefusedWith r)
  -- done, where it meets none
  all_passed : Meets catalog step None → MayEnd catalog step Done
  -- where it would be done, a shard may have no place for its rows, and a FLUSH may find that a round was lost
  shard_full : (shard rows : ℕ) → stores_rows step.sentence ≡ true → Meets catalog step None
      → MayEnd catalog step (RefusedWith (refusal.ShardFull shard rows))
  store_failed : step.sentence ≡ Says Flush → Meets catalog step None
      → MayEnd catalog step (RefusedWith refusal.StoreFailed)
  -- a LOAD that is bound to its cube may fail to read its file
  read_fault : is_load step.sentence ≡ true → MeetsAtBinding catalog step None
      → MayEnd catalog step (RefusedWith refusal.ReadFault)
  -- and memory may run out always
  no_memory : MayEnd catalog step (RefusedWith refusal.NoMemory)
