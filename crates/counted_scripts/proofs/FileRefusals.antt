-- Only a LOAD ends with the refusal that its file is not there or could not be read.
use Rattle.std.proofs.Common.{◌≡◌, ◌∙◌, Bool, true, false, List, [], ◌∷◌, Option, Some, None, if◌then◌else◌, sym, subst}
use Rattle.std.specs.Option.{option_map, option_or}
use Rattle.std.proofs.lemmas.Bool.{false≢true}
use Rattle.cube_language.specs.Cubes.{first_some, schema_fault}
use Rattle.cube_language.specs.declared.misfit.Misfit.{Misfit}
use Rattle.cube_language.specs.declared.misfit.Misfit.TheVariants as misfit
use Rattle.cube_language.specs.declared.statement.Statement.{Statement}
use Rattle.cube_language.specs.declared.statement.Statement.TheVariants.{Begin, Commit, CreateCube, Flush, Insert, Load, Purge, Rollback, ShowEpochs, ShowWatch, Watch}
use Rattle.cube_journal.specs.Refusals.{of_misfit}
use Rattle.cube_journal.specs.declared.journal_entry.JournalEntry.{JournalEntry}
use Rattle.cube_journal.specs.declared.refusal.Refusal.{Refusal}
use Rattle.cube_journal.specs.declared.refusal.Refusal.TheVariants as refusal
use Rattle.cube_run.specs.LoadedRows.{first_without_place}
use Rattle.cube_run.specs.RunRecords.{Catalog, LoadedFile, Says, SaysNone, Sentence, cube_needed, declaration_of, names_of_cube}
use Rattle.cube_run.specs.SessionStates.{Aborted, Idle, KeptWatch, Mode, Open}
use Rattle.cube_run.specs.SessionSteps.{SessionStep}
use Rattle.cube_run.specs.StatementEntries.{Done, Outcome, RefusedWith}
use Rattle.cube_run.specs.StepOutcomes.{MayEnd, all_passed, begins_refused, bound_refusal, data_refusal, is_load, no_memory, read_fault, refused_by_mode, refused_by_watch, refused_declaration, refused_first, shard_full, store_failed, told_existing, told_too_many, told_unknown}

-- A refusal does not say that a file is not there or could not be read.
abbrev pub IsOfNoFile : Refusal → Type 0
IsOfNoFile refusal.NoSuchFile = ⊥
IsOfNoFile refusal.ReadFault = ⊥
IsOfNoFile r = Unit {0}

-- Nor does the one that there may be.
abbrev AnyIsOfNoFile : Option Refusal → Type 0
AnyIsOfNoFile None = Unit {0}
AnyIsOfNoFile (Some r) = IsOfNoFile r

-- Nor does that of an outcome.
abbrev pub EndsWithNoFile : Outcome → Type 0
EndsWithNoFile Done = Unit {0}
EndsWithNoFile (RefusedWith r) = IsOfNoFile r

-- ---- choices among refusals

of_either : (a b : Option Refusal) → AnyIsOfNoFile a → AnyIsOfNoFile b → AnyIsOfNoFile (option_or a b)
of_either None b here there = there
of_either (Some r) b here there = here

of_first : (a : Option Refusal) (others : List (Option Refusal)) → AnyIsOfNoFile a → AnyIsOfNoFile (first_some others)
    → AnyIsOfNoFile (first_some (a ∷ others))
of_first None others here there = there
of_first (Some r) others here there = here

of_choice : (told : Bool) (a : Option Refusal) → AnyIsOfNoFile a → AnyIsOfNoFile (if told then a else None)
of_choice true a here = here
of_choice false a here = tt

of_map : {A : Type 0} (f : A → Refusal) (a : Option A) → ((x : A) → IsOfNoFile (f x)) → AnyIsOfNoFile (option_map f a)
of_map f None each = tt
of_map f (Some x) each = each x

-- ---- what refuses a statement before its data

by_mode : (mode : Mode) (s : Statement) → AnyIsOfNoFile (refused_by_mode mode s)
by_mode Idle Commit = tt
by_mode Idle Rollback = tt
by_mode Idle s = tt
by_mode (Open writer) Begin = tt
by_mode (Open writer) (CreateCube d) = tt
by_mode (Open writer) s = tt
by_mode (Aborted epoch) Rollback = tt
by_mode (Aborted epoch) Flush = tt
by_mode (Aborted epoch) Purge = tt
by_mode (Aborted epoch) ShowEpochs = tt
by_mode (Aborted epoch) s = tt

by_watch : (watch : Option KeptWatch) (s : Statement) → AnyIsOfNoFile (refused_by_watch watch s)
by_watch (Some kept) (Watch items cube conds group) = tt
by_watch None ShowWatch = tt
by_watch watch s = tt

by_misfit : (m : Misfit) → IsOfNoFile (of_misfit m)
by_misfit (misfit.UnknownColumn name) = tt
by_misfit (misfit.WrongKind name) = tt
by_misfit (misfit.NotGrouped name) = tt
by_misfit (misfit.NotAnItem item) = tt
by_misfit (misfit.BadHaving item) = tt
by_misfit (misfit.NotWatchable item) = tt
by_misfit (misfit.CutsBrick name) = tt
by_misfit (misfit.BadRow row why) = tt

by_list : (entries : List JournalEntry) (s : Statement) → AnyIsOfNoFile (told_unknown entries s)
by_list entries s =
    of_choice (begins_refused 2 entries) (option_map refusal.UnknownCube (cube_needed s))
    (of_map refusal.UnknownCube (cube_needed s) (λ name. tt))

by_declaration : (entries : List JournalEntry) (s : Statement) → AnyIsOfNoFile (refused_declaration entries s)
by_declaration entries (CreateCube d) =
    of_first (option_map refusal.BadCube (schema_fault d)) (told_existing entries d ∷ told_too_many entries ∷ [])
    (of_map refusal.BadCube (schema_fault d) (λ fault. tt))
    (of_first (told_existing entries d) (told_too_many entries ∷ [])
    (of_choice (begins_refused 19 entries) (Some (refusal.CubeExists d.name)) tt)
    (of_first (told_too_many entries) []
    (of_choice (begins_refused 21 entries) (Some refusal.TooManyCubes) tt) tt))
by_declaration entries s = tt

at_binding : (step : SessionStep) (sentence : Sentence) (m : Option Misfit)
    → AnyIsOfNoFile (bound_refusal step sentence m)
at_binding step (SaysNone at) m = tt
at_binding step (Says s) m =
    let declared = refused_declaration step.entries s ∷ [] in
    let fitting = option_map of_misfit m ∷ declared in
    let listed = told_unknown step.entries s ∷ fitting in
    of_first (refused_by_mode step.state.mode s) (refused_by_watch step.state.watch s ∷ listed)
    (by_mode step.state.mode s)
    (of_first (refused_by_watch step.state.watch s) listed (by_watch step.state.watch s)
    (of_first (told_unknown step.entries s) fitting (by_list step.entries s)
    (of_first (option_map of_misfit m) declared (of_map of_misfit m by_misfit)
    (of_first (refused_declaration step.entries s) [] (by_declaration step.entries s) tt))))

-- ---- and by them

by_data : (catalog : Catalog) (file : LoadedFile) (sentence : Sentence) → is_load sentence ≡ false
    → AnyIsOfNoFile (data_refusal catalog file sentence)
by_data catalog file (Says (Insert cube rows)) other =
    of_map refusal.DictionaryFull
    (first_without_place (declaration_of catalog cube) (names_of_cube catalog cube) rows)
    (λ name. tt)
by_data catalog file (Says (Load cube path reject)) other = absurd (false≢true (sym other))
by_data catalog file sentence other = tt

pub others_end_with_no_file : (catalog : Catalog) (step : SessionStep) {outcome : Outcome}
    → MayEnd catalog step outcome → is_load step.sentence ≡ false → EndsWithNoFile outcome
others_end_with_no_file catalog step (refused_first r m) other =
    subst AnyIsOfNoFile m.is
    (of_either m.binding (data_refusal catalog step.file step.sentence)
    (subst AnyIsOfNoFile m.meets.is (at_binding step step.sentence m.meets.misfit))
    (by_data catalog step.file step.sentence other))
others_end_with_no_file catalog step (all_passed m) other = tt
others_end_with_no_file catalog step (shard_full shard rows stores m) other = tt
others_end_with_no_file catalog step (store_failed flushes m) other = tt
others_end_with_no_file catalog step (read_fault loads m) other = absurd (false≢true (sym other ∙ loads))
others_end_with_no_file catalog step no_memory other = tt
