-- An entry of the journal of a run tells that a round was lost to a disk where the flusher's calls tell it.
use Rattle.std.proofs.Common.{◌≡◌, ◌∙◌, ℕ, ◌==◌, ◌||◌, Bool, true, false, true≢false, List, [], ◌∷◌, fold, refl, sym, ap, eq-eqb, if◌then◌else◌}
use Rattle.cube_journal.specs.declared.note.Note.TheVariants as note
use Rattle.cube_journal.specs.Counters.{JournalState, opening_state, state_after, store_failed_after}
use Rattle.cube_journal.specs.declared.journal_entry.JournalEntry.{JournalEntry}
use Rattle.cube_journal.specs.declared.journal_entry.JournalEntry.TheVariants as entry
use Rattle.cube_journal.specs.declared.journal_entry.LostCause.TheVariants.{Disk, Memory}
use Rattle.aosi_desk.specs.declared.answer.RoundAnswer.TheVariants.{Target, Nothing}
use Rattle.aosi_desk.specs.declared.answer.RoundEnd.TheVariants.{Safe, Lost}
use Rattle.aosi_desk.specs.declared.cube.CubeAnswer.TheVariants.{Created, Exists, TooMany}
use Rattle.aosi_desk.specs.declared.cube.CubeFound.TheVariants.{Found, Unknown}
use Rattle.core_events.specs.Cells.{counters_of_run, desk_of}
use Rattle.core_events.specs.Clients.{calls_of, client_state, state_from_calls, store_lost_after}
use Rattle.core_events.specs.Events.{Opening, flusher, OpenWrite, OpenRead, Commit, AbortEnd, CloseRead, TakeNote, CreateCube, FindCube, CubesFrom, CountersNow, RoundOpen, RoundClose, StoreFailed, ClientCall, OnDesk, OnNames, Post, Fetch, CloseMail, NoChange, CoreEvent, By, At}
use Rattle.core_events.specs.Fitting.{FitsCall}
use Rattle.core_events.specs.Runs.{IsCoreRun}
use Rattle.core_events.proofs.DeskSteps.{client_entry, run-step, state_with_entry}
use Rattle.core_events.proofs.RoundEnds.{closes_round}
use Rattle.core_serial.specs.Journals.{journal_of}
use Rattle.recorded_images.specs.RecordedImages.{has_lost_store}

or-true : (b : Bool) → (b || true) ≡ true
or-true true = refl
or-true false = refl

or-false : (b : Bool) → (b || false) ≡ b
or-false true = refl
or-false false = refl

or-assoc : (a b c : Bool) → ((a || b) || c) ≡ (a || (b || c))
or-assoc true b c = refl
or-assoc false b c = refl

-- ---- by the entries

entry-fails : (failed : Bool) (e : JournalEntry) → store_failed_after failed e ≡ failed || store_failed_after false e
entry-fails failed (entry.RoundLost epoch Disk) = sym (or-true failed)
entry-fails failed e = sym (or-false failed)

fails-by-entries : (s : JournalState) (journal : List JournalEntry)
    → (fold state_after s journal).store_failed ≡ s.store_failed || has_lost_store journal
fails-by-entries s [] = sym (or-false s.store_failed)
fails-by-entries s (e ∷ journal) =
    fails-by-entries (state_after s e) journal
    ∙ ap (λ (failed : Bool). failed || has_lost_store journal) (entry-fails s.store_failed e)
    ∙ or-assoc s.store_failed (store_failed_after false e) (has_lost_store journal)

-- ---- by the flusher's calls

abbrev failed_after : ℕ → ClientCall → JournalState → Bool
failed_after a call s = (state_with_entry (client_entry a call) s).store_failed

failed-same : (a : ℕ) (call : ClientCall) (s : JournalState) → closes_round call ≡ false
    → failed_after a call s ≡ s.store_failed
failed-same a (OnDesk (OpenWrite statement epoch deps)) s c = refl
failed-same a (OnDesk (OpenRead number statement epoch)) s c = refl
failed-same a (OnDesk (Commit statement epoch)) s c = refl
failed-same a (OnDesk (AbortEnd statement epoch cause)) s c = refl
failed-same a (OnDesk (CloseRead number statement)) s c = refl
failed-same a (OnDesk (TakeNote (note.Refused session statement code) counters)) s c = refl
failed-same a (OnDesk (TakeNote (note.Cleared session statement) counters)) s c = refl
failed-same a (OnDesk (TakeNote (note.Show session statement) counters)) s c = refl
failed-same a (OnDesk (TakeNote (note.Flushed session statement) counters)) s c = refl
failed-same a (OnDesk (TakeNote (note.Purged session statement epoch) counters)) s c = refl
failed-same a (OnDesk (CreateCube statement decl (Created epoch place))) s c = refl
failed-same a (OnDesk (CreateCube statement decl Exists)) s c = refl
failed-same a (OnDesk (CreateCube statement decl TooMany)) s c = refl
failed-same a (OnDesk (FindCube statement name (Found place decl))) s c = refl
failed-same a (OnDesk (FindCube statement name Unknown)) s c = refl
failed-same a (OnDesk (CubesFrom place cubes)) s c = refl
failed-same a (OnDesk (CountersNow counters)) s c = refl
failed-same a (OnDesk (RoundOpen (Target from epoch))) s c = refl
failed-same a (OnDesk (RoundOpen (Nothing epoch))) s c = refl
failed-same a (OnDesk (RoundClose epoch end)) s c = absurd (true≢false c)
failed-same a (OnDesk (StoreFailed failed)) s c = refl
failed-same a (OnNames call) s c = refl
failed-same a (Post mail job) s c = refl
failed-same a (Fetch mail answer) s c = refl
failed-same a (CloseMail mail) s c = refl
failed-same a NoChange s c = refl

lost-same : (call : ClientCall) (lost : Bool) → closes_round call ≡ false → store_lost_after call lost ≡ lost
lost-same (OnDesk (RoundClose epoch end)) lost is = absurd (true≢false is)
lost-same call lost is = refl

module _ (o : Opening) where
  abbrev lost_by : List ClientCall → Bool
  lost_by calls = (state_from_calls o (flusher o) calls).store_lost

  abbrev with_call : Bool → ClientCall → List ClientCall → List ClientCall
  with_call own c calls = if own then c ∷ calls else calls

  plain : (a : ℕ) (c : ClientCall) (own : Bool) (s : JournalState) (calls : List ClientCall) → closes_round c ≡ false
      → s.store_failed ≡ lost_by calls → failed_after a c s ≡ lost_by (with_call own c calls)
  plain a c true s calls none held = failed-same a c s none ∙ held ∙ sym (lost-same c (lost_by calls) none)
  plain a c false s calls none held = failed-same a c s none ∙ held

  after-call : (a : ℕ) (c : ClientCall) (own : Bool) (s : JournalState) (calls : List ClientCall) (es : List CoreEvent)
      → (a == flusher o) ≡ own → FitsCall o a c (client_state o a es) → s.store_failed ≡ lost_by calls
      → failed_after a c s ≡ lost_by (with_call own c calls)
  after-call a (OnDesk (RoundClose epoch Safe)) true s calls es is fits held = held
  after-call a (OnDesk (RoundClose epoch (Lost Disk))) true s calls es is fits held = refl
  after-call a (OnDesk (RoundClose epoch (Lost Memory))) true s calls es is fits held = held
  after-call a (OnDesk (RoundClose epoch end)) false s calls es is fits held =
      absurd (true≢false (sym (eq-eqb a (flusher o) fits.flusher) ∙ is))
  after-call a c own s calls es is fits held = plain a c own s calls refl held

  failed-told : (es : List CoreEvent) → IsCoreRun o es
      → (counters_of_run o es).store_failed ≡ lost_by (calls_of (flusher o) es)
  failed-told [] run = refl
  failed-told (At mail move ∷ es) run = failed-told es run.0
  failed-told (By a c ∷ es) run =
      ap (λ (s : JournalState). s.store_failed) (run-step o a c es)
      ∙ after-call a c (a == flusher o) (counters_of_run o es) (calls_of (flusher o) es) es refl run.1.fits
      (failed-told es run.0)

  -- Which the desk's journal and the flusher's calls tell alike.
  pub lost-by-journal : (es : List CoreEvent) (calls : List ClientCall) → IsCoreRun o es
      → calls ≡ calls_of (flusher o) es → lost_by calls ≡ has_lost_store (journal_of o es)
  lost-by-journal es calls run all =
      ap lost_by all
      ∙ sym (failed-told es run)
      ∙ fails-by-entries (opening_state (desk_of o es).register.safe) (journal_of o es)
