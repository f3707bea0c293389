-- An epoch that an entry of a client's own calls aborts is aborted, and so it is neither committed nor that of a writer.
use Rattle.std.proofs.Common.{◌≡◌, ◌∙◌, ℕ, ◌==◌, Bool, true, false, true≢false, ◌||◌, List, [], ◌∷◌, Option, Some, None, if◌then◌else◌, inl, inr, refl, sym, ap}
use Rattle.std.specs.List.{list_any}
use Rattle.std.proofs.lemmas.Bool.{false≢true, false_from_ne_true}
use Rattle.std.proofs.lemmas.List.Folds.{list_any-append}
use Rattle.aosi_desk.specs.declared.cube.CubeAnswer.TheVariants.{Created, Exists, TooMany}
use Rattle.aosi_desk.specs.declared.cube.CubeFound.TheVariants.{Found, Unknown}
use Rattle.aosi_desk.specs.declared.answer.RoundAnswer.TheVariants.{Target, Nothing}
use Rattle.aosi_desk.specs.declared.answer.RoundEnd.TheVariants.{Safe, Lost}
use Rattle.core_agreements.proofs.OpenedEpochs.{committed-is}
use Rattle.core_events.specs.Cells.{counters_of_run}
use Rattle.core_events.specs.Clients.{calls_of}
use Rattle.core_events.specs.Events.{Opening, OpenWrite, OpenRead, Commit, AbortEnd, CloseRead, TakeNote, CreateCube, FindCube, CubesFrom, CountersNow, RoundOpen, RoundClose, StoreFailed, ClientCall, OnDesk, OnNames, Post, Fetch, CloseMail, NoChange, CoreEvent, By, At}
use Rattle.core_events.specs.Runs.{IsCoreRun}
use Rattle.core_events.specs.Serial.{aborts, has_aborted}
use Rattle.core_serial.proofs.Entries.{journal_with}
use Rattle.core_events.proofs.DeskSteps.{client_entry}
use Rattle.core_events.proofs.Finished.{none-both, or-is, run-finished}
use Rattle.core_records.proofs.SessionParts.{desk-journal}
use Rattle.core_records.specs.OwnEntries.{desk_by_calls, entries_by_calls}
use Rattle.cube_journal.specs.Counters.{held_by}
use Rattle.cube_journal.specs.declared.journal_entry.JournalEntry.{JournalEntry}
use Rattle.cube_journal.specs.declared.note.Note.TheVariants as note
use Rattle.cube_run.specs.RunTransactions.{is_commit_of}
use Rattle.cube_values.specs.declared.snapshot.Snapshot.{Snapshot}
use Rattle.posted_pasts.specs.PostsBehind.{is_abort_of}

or-true : (b : Bool) → (b || true) ≡ true
or-true true = refl
or-true false = refl

or-false : (b : Bool) → b ≡ (b || false)
or-false true = refl
or-false false = refl

-- ---- entries and calls

abbrev own_aborts : ℕ → List ClientCall → Bool
own_aborts e [] = false
own_aborts e (call ∷ calls) = own_aborts e calls || aborts call e

abbrev abort_in : ℕ → Option JournalEntry → Bool
abort_in e None = false
abort_in e (Some x) = is_abort_of e x

entry-aborts : (a e : ℕ) (call : ClientCall) → abort_in e (client_entry a call) ≡ aborts call e
entry-aborts a e (OnDesk (OpenWrite statement epoch deps)) = refl
entry-aborts a e (OnDesk (OpenRead number statement epoch)) = refl
entry-aborts a e (OnDesk (Commit statement epoch)) = refl
entry-aborts a e (OnDesk (AbortEnd statement epoch cause)) = refl
entry-aborts a e (OnDesk (CloseRead number statement)) = refl
entry-aborts a e (OnDesk (TakeNote (note.Refused session statement code) counters)) = refl
entry-aborts a e (OnDesk (TakeNote (note.Cleared session statement) counters)) = refl
entry-aborts a e (OnDesk (TakeNote (note.Show session statement) counters)) = refl
entry-aborts a e (OnDesk (TakeNote (note.Flushed session statement) counters)) = refl
entry-aborts a e (OnDesk (TakeNote (note.Purged session statement epoch) counters)) = refl
entry-aborts a e (OnDesk (CreateCube statement decl (Created epoch place))) = refl
entry-aborts a e (OnDesk (CreateCube statement decl Exists)) = refl
entry-aborts a e (OnDesk (CreateCube statement decl TooMany)) = refl
entry-aborts a e (OnDesk (FindCube statement name (Found place decl))) = refl
entry-aborts a e (OnDesk (FindCube statement name Unknown)) = refl
entry-aborts a e (OnDesk (CubesFrom place cubes)) = refl
entry-aborts a e (OnDesk (CountersNow counters)) = refl
entry-aborts a e (OnDesk (RoundOpen (Target from epoch))) = refl
entry-aborts a e (OnDesk (RoundOpen (Nothing epoch))) = refl
entry-aborts a e (OnDesk (RoundClose epoch Safe)) = refl
entry-aborts a e (OnDesk (RoundClose epoch (Lost cause))) = refl
entry-aborts a e (OnDesk (StoreFailed failed)) = refl
entry-aborts a e (OnNames call) = refl
entry-aborts a e (Post mail job) = refl
entry-aborts a e (Fetch mail answer) = refl
entry-aborts a e (CloseMail mail) = refl
entry-aborts a e NoChange = refl

any-with : (e : ℕ) (x : Option JournalEntry) (journal : List JournalEntry)
    → list_any (is_abort_of e) (journal_with x journal) ≡ (list_any (is_abort_of e) journal || abort_in e x)
any-with e None journal = or-false (list_any (is_abort_of e) journal)
any-with e (Some x) journal =
    list_any-append (is_abort_of e) journal (x ∷ [])
    ∙ ap (λ (b : Bool). list_any (is_abort_of e) journal || b) (sym (or-false (is_abort_of e x)))

entries-abort : (o : Opening) (a e : ℕ) (calls : List ClientCall)
    → list_any (is_abort_of e) (entries_by_calls o a calls) ≡ own_aborts e calls
entries-abort o a e [] = refl
entries-abort o a e (call ∷ calls) =
    ap (list_any (is_abort_of e)) (desk-journal a call (desk_by_calls o a calls))
    ∙ any-with e (client_entry a call) (entries_by_calls o a calls)
    ∙ (λ i. entries-abort o a e calls i || entry-aborts a e call i)

own-aborted : (es : List CoreEvent) (a e : ℕ) → own_aborts e (calls_of a es) ≡ true → has_aborted es e ≡ true
own-aborted [] a e is = absurd (false≢true is)
own-aborted (By b call ∷ es) a e is = at (b == a) is (own-aborted es a e)
  where
    at : (own : Bool) → own_aborts e (if own then call ∷ calls_of a es else calls_of a es) ≡ true
        → (own_aborts e (calls_of a es) ≡ true → has_aborted es e ≡ true)
        → (aborts call e || has_aborted es e) ≡ true
    at true is before = elim (or-is (own_aborts e (calls_of a es)) (aborts call e) is) [
      | inl old ↦ ap (λ (c : Bool). aborts call e || c) (before old) ∙ or-true (aborts call e)
      | inr new ↦ ap (λ (c : Bool). c || has_aborted es e) new
    ]
    at false is before = ap (λ (c : Bool). aborts call e || c) (before is) ∙ or-true (aborts call e)
own-aborted (At mail move ∷ es) a e is = own-aborted es a e is

aborted-is : (o : Opening) (es : List CoreEvent) (a e : ℕ)
    → list_any (is_abort_of e) (entries_by_calls o a (calls_of a es)) ≡ true → has_aborted es e ≡ true
aborted-is o es a e is = own-aborted es a e (sym (entries-abort o a e (calls_of a es)) ∙ is)

-- ---- which epochs they are not

pub commits-not-aborted : (o : Opening) (es : List CoreEvent) (a e : ℕ) → IsCoreRun o es
    → list_any (is_commit_of e) (entries_by_calls o a (calls_of a es)) ≡ true
    → list_any (is_abort_of e) (entries_by_calls o a (calls_of a es)) ≡ false
commits-not-aborted o es a e run is =
    false_from_ne_true (list_any (is_abort_of e) (entries_by_calls o a (calls_of a es)))
    (λ gone. true≢false (sym (committed-is o es a e is) ∙ none-both o es e run (aborted-is o es a e gone)))

pub writers-not-aborted : (o : Opening) (es : List CoreEvent) (a : ℕ) (s : Snapshot) → IsCoreRun o es
    → held_by (counters_of_run o es).snapshots a ≡ Some s → s.own ≡ true
    → list_any (is_abort_of s.epoch) (entries_by_calls o a (calls_of a es)) ≡ false
writers-not-aborted o es a s run held own =
    let finished = run-finished o es run in
    false_from_ne_true (list_any (is_abort_of s.epoch) (entries_by_calls o a (calls_of a es)))
    (λ gone. true≢false
    (sym (finished.writers a s held own) ∙ finished.gone_ended s.epoch (aborted-is o es a s.epoch gone)))
