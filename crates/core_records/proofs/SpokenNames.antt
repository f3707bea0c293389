-- The record of a run is legal: the names of which the calls speak are those of which the statements speak.
use Rattle.std.proofs.Common.{◌≡◌, ◌∙◌, ℕ, Bool, true, false, List, [], ◌∷◌, ◌++◌, map, unwrap_or, Option, Some, None, refl, sym, ap, subst}
use Rattle.std.specs.Option.{IsSomeAnd, option_and_then}
use Rattle.std.proofs.lemmas.Bool.{false≢true}
use Rattle.std.proofs.lemmas.List.{map-append}
use Rattle.cube_language.specs.declared.statement.Statement.{Statement}
use Rattle.cube_journal.specs.Legal.{CubesAllow, CubesAllowAll, cubes_after, RefusalFits}
use Rattle.cube_journal.specs.declared.journal_entry.JournalEntry.{JournalEntry}
use Rattle.cube_journal.specs.declared.journal_entry.JournalEntry.TheVariants as entry
use Rattle.cube_journal.specs.declared.note.Note.TheVariants as note
use Rattle.cube_run.specs.RunRecords.{IsLegalRun, name_of_entry, name_spoken_of}
use Rattle.aosi_desk.specs.declared.answer.RoundAnswer.TheVariants.{Target, Nothing}
use Rattle.aosi_desk.specs.declared.answer.RoundEnd.TheVariants.{Safe, Lost}
use Rattle.aosi_desk.specs.Desks.{decl_names, is_cube_code, speaks_of_cubes}
use Rattle.aosi_desk.specs.declared.cube.CubeAnswer.TheVariants.{Created, Exists, TooMany}
use Rattle.aosi_desk.specs.declared.cube.CubeFound.TheVariants.{Found, Unknown}
use Rattle.aosi_desk.proofs.Kept.{other_entry}
use Rattle.core_events.specs.Clients.{ClientState, client_state}
use Rattle.core_events.specs.Events.{Opening, IsSession, OpenWrite, OpenRead, Commit, AbortEnd, CloseRead, TakeNote, CreateCube, FindCube, CubesFrom, CountersNow, RoundOpen, RoundClose, StoreFailed, ClientCall, OnDesk, OnNames, Post, Fetch, CloseMail, NoChange, CoreEvent, By, At}
use Rattle.core_events.specs.Fitting.{FitsCall}
use Rattle.core_events.specs.Runs.{IsCoreRun}
use Rattle.core_events.proofs.DeskSteps.{client_entry}
use Rattle.core_serial.specs.Journals.{journal_of, name_spoken, names_spoken}
use Rattle.core_serial.proofs.Entries.{journal_with, journal-step}
use Rattle.core_serial.proofs.LegalJournals.{run-legal}
use Rattle.core_records.specs.CoreRecords.{RunScripts, record_of}
use Rattle.core_records.specs.ScriptedCalls.{FollowScripts, SpeaksByScript, script_given, statement_in}
use Rattle.core_records.proofs.CubesOnRecord.{follow-before, speaks-now}

-- Two lists of names tell the same of the entries that speak of cubes.
abbrev SpeakAlike : List (List ℕ) → List (List ℕ) → List JournalEntry → Type 0
SpeakAlike [] [] [] = Unit {0}
SpeakAlike (n ∷ names) (m ∷ others) (e ∷ journal) =
    (speaks_of_cubes e ≡ true → n ≡ m) × SpeakAlike names others journal
SpeakAlike names others journal = ⊥

alike-more : (names others : List (List ℕ)) (journal : List JournalEntry) (n m : List ℕ) (e : JournalEntry)
    → SpeakAlike names others journal → (speaks_of_cubes e ≡ true → n ≡ m)
    → SpeakAlike (names ++ n ∷ []) (others ++ m ∷ []) (journal ++ e ∷ [])
alike-more [] [] [] n m e alike same = (same, tt)
alike-more (x ∷ names) (y ∷ others) (z ∷ journal) n m e alike same =
    (alike.0, alike-more names others journal n m e alike.1 same)
alike-more [] [] (z ∷ journal) n m e alike same = absurd alike
alike-more [] (y ∷ others) journal n m e alike same = absurd alike
alike-more (x ∷ names) [] journal n m e alike same = absurd alike
alike-more (x ∷ names) (y ∷ others) [] n m e alike same = absurd alike

-- An entry that does not speak of cubes is allowed with one name as with another, and leaves the cubes.
silent-allowed : (cubes : List (List ℕ)) (m : List ℕ) (e : JournalEntry) → speaks_of_cubes e ≡ false
    → CubesAllow cubes m e × (cubes_after cubes m e ≡ cubes)
silent-allowed cubes m (entry.Refused session statement code) silent =
    let fits : RefusalFits cubes [] code = (other_entry cubes (entry.Refused session statement code) silent).0 in (
      record {
        unknown = λ is. absurd (false≢true (sym silent ∙ ap is_cube_code is));
        exists = λ is. absurd (false≢true (sym silent ∙ ap is_cube_code is));
        too_many = λ is. absurd (false≢true (sym silent ∙ ap is_cube_code is));
      },
      refl,
    )
silent-allowed cubes m (entry.Cube session statement epoch) silent = absurd (false≢true (sym silent))
silent-allowed cubes m (entry.Begin session statement epoch deps) silent = (tt, refl)
silent-allowed cubes m (entry.Read session statement epoch) silent = (tt, refl)
silent-allowed cubes m (entry.ReadEnd session statement) silent = (tt, refl)
silent-allowed cubes m (entry.Committed session statement epoch) silent = (tt, refl)
silent-allowed cubes m (entry.Aborted session statement epoch cause) silent = (tt, refl)
silent-allowed cubes m (entry.Cleared session statement) silent = (tt, refl)
silent-allowed cubes m (entry.Show session statement) silent = (tt, refl)
silent-allowed cubes m (entry.Flushed session statement) silent = (tt, refl)
silent-allowed cubes m (entry.Purged session statement epoch) silent = (tt, refl)
silent-allowed cubes m (entry.Round epoch) silent = (tt, refl)
silent-allowed cubes m (entry.Idle epoch) silent = (tt, refl)
silent-allowed cubes m (entry.Safe epoch) silent = (tt, refl)
silent-allowed cubes m (entry.RoundLost epoch cause) silent = (tt, refl)

alike-allowed : (cubes names others : List (List ℕ)) (journal : List JournalEntry) → SpeakAlike names others journal
    → CubesAllowAll cubes names journal → CubesAllowAll cubes others journal
alike-allowed cubes [] [] [] alike all = tt
alike-allowed cubes (n ∷ names) (m ∷ others) (e ∷ journal) alike all =
    at (speaks_of_cubes e) refl
    (λ after more. alike-allowed after names others journal alike.1 more)
  where
    at : (t : Bool) → speaks_of_cubes e ≡ t
        → ((after : List (List ℕ)) → CubesAllowAll after names journal → CubesAllowAll after others journal)
        → CubesAllowAll cubes (m ∷ others) (e ∷ journal)
    at true is rest =
        let same = alike.0 is in (
          subst (λ (name : List ℕ). CubesAllow cubes name e) same all.0,
          subst (λ (name : List ℕ). CubesAllowAll (cubes_after cubes name e) others journal) same
              (rest (cubes_after cubes n e) all.1),
        )
    at false is rest =
        let one = silent-allowed cubes n e is in
        let other = silent-allowed cubes m e is in (
          other.0,
          subst (λ (after : List (List ℕ)). CubesAllowAll after others journal) (one.1 ∙ sym other.1)
              (rest (cubes_after cubes n e) all.1),
        )
alike-allowed cubes [] [] (e ∷ journal) alike all = absurd alike
alike-allowed cubes [] (m ∷ others) journal alike all = absurd alike
alike-allowed cubes (n ∷ names) [] journal alike all = absurd alike
alike-allowed cubes (n ∷ names) (m ∷ others) [] alike all = absurd alike

-- ---- one call more

-- Its entry speaks of the same cube by the call as by the statement.
abbrev SpeaksAlike : Opening → RunScripts → List CoreEvent → ClientCall → Option JournalEntry → Type 0
SpeaksAlike o given all call None = Unit {0}
SpeaksAlike o given all call (Some e) =
    speaks_of_cubes e ≡ true → name_spoken call ≡ name_of_entry (record_of o given all) e

said-name : (name : List ℕ) (s : Option Statement) → IsSomeAnd s (λ s. name_spoken_of s ≡ name)
    → name ≡ unwrap_or (option_and_then (λ s. Some (name_spoken_of s)) s) []
said-name name None h = absurd h
said-name name (Some s) h = sym h

asked-name : (s : Option Statement) (asked : Statement) → s ≡ Some asked
    → name_spoken_of asked ≡ unwrap_or (option_and_then (λ s. Some (name_spoken_of s)) s) []
asked-name s asked is = sym (ap (λ s. unwrap_or (option_and_then (λ s. Some (name_spoken_of s)) s) []) is)

never : {A : Type 0} → false ≡ true → A
never e = absurd (false≢true e)

call-speaks : (o : Opening) (given : RunScripts) (all : List CoreEvent) (b : ℕ) (call : ClientCall) (k : ClientState)
    → FitsCall o b call k → (IsSession o b → SpeaksByScript (script_given given b) call)
    → SpeaksAlike o given all call (client_entry b call)
call-speaks o given all b (OnDesk (OpenWrite statement epoch deps)) k f s = never
call-speaks o given all b (OnDesk (OpenRead number statement epoch)) k f s = never
call-speaks o given all b (OnDesk (Commit statement epoch)) k f s = never
call-speaks o given all b (OnDesk (AbortEnd statement epoch cause)) k f s = never
call-speaks o given all b (OnDesk (CloseRead number statement)) k f s = never
call-speaks o given all b (OnDesk (TakeNote (note.Refused session statement code) counters)) k f s =
    λ is. never (sym f.allowed.1.other ∙ is)
call-speaks o given all b (OnDesk (TakeNote (note.Cleared session statement) counters)) k f s = never
call-speaks o given all b (OnDesk (TakeNote (note.Show session statement) counters)) k f s = never
call-speaks o given all b (OnDesk (TakeNote (note.Flushed session statement) counters)) k f s = never
call-speaks o given all b (OnDesk (TakeNote (note.Purged session statement epoch) counters)) k f s = never
call-speaks o given all b (OnDesk (CreateCube statement decl (Created epoch place))) k f s =
    λ is. asked-name (statement_in (script_given given b) statement) _ (s f.0.session)
call-speaks o given all b (OnDesk (CreateCube statement decl Exists)) k f s =
    λ is. asked-name (statement_in (script_given given b) statement) _ (s f.0.session)
call-speaks o given all b (OnDesk (CreateCube statement decl TooMany)) k f s =
    λ is. asked-name (statement_in (script_given given b) statement) _ (s f.0.session)
call-speaks o given all b (OnDesk (FindCube statement name (Found place decl))) k f s = tt
call-speaks o given all b (OnDesk (FindCube statement name Unknown)) k f s =
    λ is. said-name name (statement_in (script_given given b) statement) (s f.0)
call-speaks o given all b (OnDesk (CubesFrom place cubes)) k f s = tt
call-speaks o given all b (OnDesk (CountersNow counters)) k f s = tt
call-speaks o given all b (OnDesk (RoundOpen (Target from epoch))) k f s = never
call-speaks o given all b (OnDesk (RoundOpen (Nothing epoch))) k f s = never
call-speaks o given all b (OnDesk (RoundClose epoch Safe)) k f s = never
call-speaks o given all b (OnDesk (RoundClose epoch (Lost cause))) k f s = never
call-speaks o given all b (OnDesk (StoreFailed failed)) k f s = tt
call-speaks o given all b (OnNames call) k f s = tt
call-speaks o given all b (Post mail job) k f s = tt
call-speaks o given all b (Fetch mail answer) k f s = tt
call-speaks o given all b (CloseMail mail) k f s = tt
call-speaks o given all b NoChange k f s = tt

-- The names with that of one more entry.
abbrev names_with : Option JournalEntry → List ℕ → List (List ℕ) → List (List ℕ)
names_with None name names = names
names_with (Some e) name names = names ++ name ∷ []

names-step : (b : ℕ) (call : ClientCall) (es : List CoreEvent)
    → names_spoken (By b call ∷ es) ≡ names_with (client_entry b call) (name_spoken call) (names_spoken es)
names-step b (OnDesk (OpenWrite statement epoch deps)) es = refl
names-step b (OnDesk (OpenRead number statement epoch)) es = refl
names-step b (OnDesk (Commit statement epoch)) es = refl
names-step b (OnDesk (AbortEnd statement epoch cause)) es = refl
names-step b (OnDesk (CloseRead number statement)) es = refl
names-step b (OnDesk (TakeNote note counters)) es = refl
names-step b (OnDesk (CreateCube statement decl answer)) es = refl
names-step b (OnDesk (FindCube statement name (Found place decl))) es = refl
names-step b (OnDesk (FindCube statement name Unknown)) es = refl
names-step b (OnDesk (CubesFrom place cubes)) es = refl
names-step b (OnDesk (CountersNow counters)) es = refl
names-step b (OnDesk (RoundOpen answer)) es = refl
names-step b (OnDesk (RoundClose epoch end)) es = refl
names-step b (OnDesk (StoreFailed failed)) es = refl
names-step b (OnNames call) es = refl
names-step b (Post mail job) es = refl
names-step b (Fetch mail answer) es = refl
names-step b (CloseMail mail) es = refl
names-step b NoChange es = refl

module _ (o : Opening) (given : RunScripts) (all : List CoreEvent) where
  abbrev name_on_record : JournalEntry → List ℕ
  name_on_record e = name_of_entry (record_of o given all) e

  alike-with : (call : ClientCall) (e : Option JournalEntry) (names : List (List ℕ)) (journal : List JournalEntry)
      → SpeaksAlike o given all call e → SpeakAlike names (map name_on_record journal) journal
      → SpeakAlike (names_with e (name_spoken call) names) (map name_on_record (journal_with e journal))
      (journal_with e journal)
  alike-with call None names journal same alike = alike
  alike-with call (Some e) names journal same alike =
      coe 1 0 (i. SpeakAlike (names ++ name_spoken call ∷ []) (map-append name_on_record journal (e ∷ []) i)
      (journal ++ e ∷ []))
      (alike-more names (map name_on_record journal) journal (name_spoken call) (name_on_record e) e alike same)

  all-alike : (es : List CoreEvent) → IsCoreRun o es → FollowScripts o given es
      → SpeakAlike (names_spoken es) (map name_on_record (journal_of o es)) (journal_of o es)
  all-alike [] run f = tt
  all-alike (By b call ∷ es) run f =
      coe 1 0 (i. SpeakAlike (names-step b call es i) (map name_on_record (journal-step o b call es i))
      (journal-step o b call es i))
      (alike-with call (client_entry b call) (names_spoken es) (journal_of o es)
      (call-speaks o given all b call (client_state o b es) run.1.fits (speaks-now o given b call es f))
      (all-alike es run.0 (follow-before o given (By b call ∷ []) es f)))
  all-alike (At mail move ∷ es) run f = all-alike es run.0 (follow-before o given (At mail move ∷ []) es f)

pub record-legal : (o : Opening) (given : RunScripts) (es : List CoreEvent) → IsCoreRun o es → FollowScripts o given es
    → IsLegalRun (record_of o given es)
record-legal o given es run f =
    let legal = run-legal o es run in
    record {
      by_counters = legal.by_counters;
      by_cubes =
          alike-allowed (decl_names o.cubes) (names_spoken es)
          (map (name_of_entry (record_of o given es)) (journal_of o es)) (journal_of o es)
          (all-alike o given es es run f) legal.by_cubes;
    }
