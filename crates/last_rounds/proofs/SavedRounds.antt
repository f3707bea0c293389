-- The last round of a run saves all: its epoch is LCE, of which the journal tells last, and LSE.
use Rattle.std.proofs.Common.{◌≡◌, ◌∙◌, ℕ, ◌-◌, ◌==◌, Bool, true, false, true≢false, List, [], ◌∷◌, ◌++◌, length, Option, Some, None, fold, min, append_assoc, if◌then◌else◌, refl, sym, ap, arith, eq-eqb}
use Rattle.std.specs.List.{AllByRecursion}
use Rattle.std.proofs.lemmas.List.Sums.{fold-append}
use Rattle.std.proofs.lemmas.Option.{none-some, same_Some}
use Rattle.cube_journal.specs.declared.counters.OpenSnapshot.{OpenSnapshot}
use Rattle.cube_journal.specs.declared.journal_entry.JournalEntry.{JournalEntry}
use Rattle.cube_journal.specs.declared.journal_entry.JournalEntry.TheVariants as entry
use Rattle.cube_journal.specs.declared.note.Note.TheVariants as note
use Rattle.cube_journal.specs.Counters.{JournalState, lce, oldest_bound, state_after, target}
use Rattle.aosi_desk.specs.State.{round_answer}
use Rattle.aosi_desk.specs.declared.answer.RoundAnswer.{RoundAnswer}
use Rattle.aosi_desk.specs.declared.answer.RoundAnswer.TheVariants.{Target, Nothing}
use Rattle.aosi_desk.specs.declared.answer.RoundEnd.TheVariants.{Safe, Lost}
use Rattle.aosi_desk.specs.declared.cube.CubeAnswer.TheVariants.{Created, Exists, TooMany}
use Rattle.aosi_desk.specs.declared.cube.CubeFound.TheVariants.{Found, Unknown}
use Rattle.core_events.specs.Cells.{counters_of_run}
use Rattle.core_events.specs.Clients.{ClientState, calls_of, client_state}
use Rattle.core_events.specs.Events.{Opening, IsSession, flusher, OpenWrite, OpenRead, Commit, AbortEnd, CloseRead, TakeNote, CreateCube, FindCube, CubesFrom, CountersNow, RoundOpen, RoundClose, StoreFailed, ClientCall, OnDesk, OnNames, Post, Fetch, CloseMail, NoChange, CoreEvent, By, At}
use Rattle.core_events.specs.Fitting.{FitsCall}
use Rattle.core_events.specs.Runs.{IsCoreRun}
use Rattle.core_events.proofs.DeskSteps.{client_entry, run-step, state_with_entry}
use Rattle.core_events.proofs.InOrder.{AllowsEntry, StateAllows, run-allowed, run-order}
use Rattle.core_serial.specs.Journals.{journal_of}
use Rattle.core_serial.proofs.Entries.{journal-step, journal_with}
use Rattle.core_settled.proofs.Settled.{run-before}
use Rattle.final_shards.specs.FinalShards.{AllIsSafe, lse_of}
use Rattle.flush_loop.specs.RoundResults.{AreOfRound}
use Rattle.flush_loop.specs.declared.round_result.RoundResult.{RoundResult}
use Rattle.flush_loop.specs.declared.round_result.RoundResult.TheVariants as result
use Rattle.flusher_rounds.specs.FlushReplies.{IsWithinRound}
use Rattle.last_rounds.specs.SavedEpochs.{EndsByLastRound, HasNoSessionCalls, HasSaved, last_saved, saved_after}
use Rattle.last_rounds.proofs.OpenCounters.{none-open, none-pending}

-- ---- the last saved epoch is LSE

abbrev IsSavedAtLse : List JournalEntry → JournalState → Type 0
IsSavedAtLse journal s = (e : ℕ) → last_saved journal ≡ Some e → s.lse ≡ e

saved-with : (journal : List JournalEntry) (x : JournalEntry)
    → last_saved (journal ++ x ∷ []) ≡ saved_after (last_saved journal) x
saved-with journal x = fold-append saved_after None journal (x ∷ [])

saved-entry : (journal : List JournalEntry) (s : JournalState) (x : JournalEntry) → StateAllows s x
    → IsSavedAtLse journal s → IsSavedAtLse (journal ++ x ∷ []) (state_after s x)
saved-entry journal s (entry.Safe epoch) allows before = λ e is.
    same_Some epoch e (sym (saved-with journal (entry.Safe epoch)) ∙ is)
saved-entry journal s (entry.Idle epoch) allows before = λ e is.
    sym allows.no_more ∙ same_Some epoch e (sym (saved-with journal (entry.Idle epoch)) ∙ is)
saved-entry journal s (entry.Begin session statement epoch deps) allows before = λ e is.
    before e (sym (saved-with journal (entry.Begin session statement epoch deps)) ∙ is)
saved-entry journal s (entry.Read session statement epoch) allows before = λ e is.
    before e (sym (saved-with journal (entry.Read session statement epoch)) ∙ is)
saved-entry journal s (entry.ReadEnd session statement) allows before = λ e is.
    before e (sym (saved-with journal (entry.ReadEnd session statement)) ∙ is)
saved-entry journal s (entry.Committed session statement epoch) allows before = λ e is.
    before e (sym (saved-with journal (entry.Committed session statement epoch)) ∙ is)
saved-entry journal s (entry.Aborted session statement epoch cause) allows before = λ e is.
    before e (sym (saved-with journal (entry.Aborted session statement epoch cause)) ∙ is)
saved-entry journal s (entry.Refused session statement code) allows before = λ e is.
    before e (sym (saved-with journal (entry.Refused session statement code)) ∙ is)
saved-entry journal s (entry.Cleared session statement) allows before = λ e is.
    before e (sym (saved-with journal (entry.Cleared session statement)) ∙ is)
saved-entry journal s (entry.Show session statement) allows before = λ e is.
    before e (sym (saved-with journal (entry.Show session statement)) ∙ is)
saved-entry journal s (entry.Flushed session statement) allows before = λ e is.
    before e (sym (saved-with journal (entry.Flushed session statement)) ∙ is)
saved-entry journal s (entry.Purged session statement epoch) allows before = λ e is.
    before e (sym (saved-with journal (entry.Purged session statement epoch)) ∙ is)
saved-entry journal s (entry.Cube session statement epoch) allows before = λ e is.
    before e (sym (saved-with journal (entry.Cube session statement epoch)) ∙ is)
saved-entry journal s (entry.Round epoch) allows before = λ e is.
    before e (sym (saved-with journal (entry.Round epoch)) ∙ is)
saved-entry journal s (entry.RoundLost epoch cause) allows before = λ e is.
    before e (sym (saved-with journal (entry.RoundLost epoch cause)) ∙ is)

saved-step : (journal : List JournalEntry) (s : JournalState) (x : Option JournalEntry) → AllowsEntry s x
    → IsSavedAtLse journal s → IsSavedAtLse (journal_with x journal) (state_with_entry x s)
saved-step journal s None allows before = before
saved-step journal s (Some x) allows before = saved-entry journal s x allows before

saved-at-lse : (o : Opening) (es : List CoreEvent) → IsCoreRun o es
    → IsSavedAtLse (journal_of o es) (counters_of_run o es)
saved-at-lse o [] run = λ e is. absurd (none-some e is)
saved-at-lse o (By b call ∷ es) run =
    coe 1 0 (i. IsSavedAtLse (journal-step o b call es i) (run-step o b call es i))
    (saved-step (journal_of o es) (counters_of_run o es) (client_entry b call) (run-allowed o b call es run)
    (saved-at-lse o es run.0))
saved-at-lse o (At mail move ∷ es) run = saved-at-lse o es run.0

-- ---- it is told by the flusher's calls

abbrev saved_by_call : ClientCall → Option ℕ → Option ℕ
saved_by_call (OnDesk (RoundOpen (Nothing epoch))) last = Some epoch
saved_by_call (OnDesk (RoundClose epoch Safe)) last = Some epoch
saved_by_call call last = last

abbrev saved_by_calls : List ClientCall → Option ℕ
saved_by_calls [] = None
saved_by_calls (call ∷ calls) = saved_by_call call (saved_by_calls calls)

abbrev saved_with : Option ℕ → Option JournalEntry → Option ℕ
saved_with last None = last
saved_with last (Some x) = saved_after last x

call-saves : (b : ℕ) (call : ClientCall) (last : Option ℕ)
    → saved_with last (client_entry b call) ≡ saved_by_call call last
call-saves b (OnDesk (RoundOpen (Target from epoch))) last = refl
call-saves b (OnDesk (RoundOpen (Nothing epoch))) last = refl
call-saves b (OnDesk (RoundClose epoch Safe)) last = refl
call-saves b (OnDesk (RoundClose epoch (Lost cause))) last = refl
call-saves b (OnDesk (OpenWrite statement epoch deps)) last = refl
call-saves b (OnDesk (OpenRead number statement epoch)) last = refl
call-saves b (OnDesk (Commit statement epoch)) last = refl
call-saves b (OnDesk (AbortEnd statement epoch cause)) last = refl
call-saves b (OnDesk (CloseRead number statement)) last = refl
call-saves b (OnDesk (TakeNote (note.Refused session statement code) counters)) last = refl
call-saves b (OnDesk (TakeNote (note.Cleared session statement) counters)) last = refl
call-saves b (OnDesk (TakeNote (note.Show session statement) counters)) last = refl
call-saves b (OnDesk (TakeNote (note.Flushed session statement) counters)) last = refl
call-saves b (OnDesk (TakeNote (note.Purged session statement epoch) counters)) last = refl
call-saves b (OnDesk (CreateCube statement decl (Created epoch place))) last = refl
call-saves b (OnDesk (CreateCube statement decl Exists)) last = refl
call-saves b (OnDesk (CreateCube statement decl TooMany)) last = refl
call-saves b (OnDesk (FindCube statement name (Found place decl))) last = refl
call-saves b (OnDesk (FindCube statement name Unknown)) last = refl
call-saves b (OnDesk (CubesFrom place cubes)) last = refl
call-saves b (OnDesk (CountersNow counters)) last = refl
call-saves b (OnDesk (StoreFailed failed)) last = refl
call-saves b (OnNames call) last = refl
call-saves b (Post mail job) last = refl
call-saves b (Fetch mail said) last = refl
call-saves b (CloseMail mail) last = refl
call-saves b NoChange last = refl

other-saves : (o : Opening) (b : ℕ) (call : ClientCall) (k : ClientState) (last : Option ℕ) → FitsCall o b call k
    → (b == flusher o) ≡ false → saved_by_call call last ≡ last
other-saves o b (OnDesk (RoundOpen said)) k last f other =
    absurd (true≢false (sym (eq-eqb b (flusher o) f.flusher) ∙ other))
other-saves o b (OnDesk (RoundClose epoch end)) k last f other =
    absurd (true≢false (sym (eq-eqb b (flusher o) f.flusher) ∙ other))
other-saves o b (OnDesk (OpenWrite statement epoch deps)) k last f other = refl
other-saves o b (OnDesk (OpenRead number statement epoch)) k last f other = refl
other-saves o b (OnDesk (Commit statement epoch)) k last f other = refl
other-saves o b (OnDesk (AbortEnd statement epoch cause)) k last f other = refl
other-saves o b (OnDesk (CloseRead number statement)) k last f other = refl
other-saves o b (OnDesk (TakeNote note counters)) k last f other = refl
other-saves o b (OnDesk (CreateCube statement decl made)) k last f other = refl
other-saves o b (OnDesk (FindCube statement name found)) k last f other = refl
other-saves o b (OnDesk (CubesFrom place cubes)) k last f other = refl
other-saves o b (OnDesk (CountersNow counters)) k last f other = refl
other-saves o b (OnDesk (StoreFailed failed)) k last f other = refl
other-saves o b (OnNames call) k last f other = refl
other-saves o b (Post mail job) k last f other = refl
other-saves o b (Fetch mail said) k last f other = refl
other-saves o b (CloseMail mail) k last f other = refl
other-saves o b NoChange k last f other = refl

step-saved : (journal : List JournalEntry) (x : Option JournalEntry)
    → last_saved (journal_with x journal) ≡ saved_with (last_saved journal) x
step-saved journal None = refl
step-saved journal (Some x) = saved-with journal x

saved-by-flusher : (o : Opening) (es : List CoreEvent) → IsCoreRun o es
    → last_saved (journal_of o es) ≡ saved_by_calls (calls_of (flusher o) es)
saved-by-flusher o [] run = refl
saved-by-flusher o (By b call ∷ es) run =
    ap last_saved (journal-step o b call es)
    ∙ step-saved (journal_of o es) (client_entry b call)
    ∙ call-saves b call (last_saved (journal_of o es))
    ∙ ap (saved_by_call call) (saved-by-flusher o es run.0)
    ∙ at (b == flusher o) refl
  where
    at : (own : Bool) → (b == flusher o) ≡ own
        → saved_by_call call (saved_by_calls (calls_of (flusher o) es))
        ≡ saved_by_calls (if own then call ∷ calls_of (flusher o) es else calls_of (flusher o) es)
    at true is = refl
    at false is =
        other-saves o b call (client_state o b es) (saved_by_calls (calls_of (flusher o) es)) run.1.fits is
saved-by-flusher o (At mail move ∷ es) run = saved-by-flusher o es run.0

within-saves : (call : ClientCall) (last : Option ℕ) → IsWithinRound call → saved_by_call call last ≡ last
within-saves (OnDesk (RoundOpen said)) last within = absurd within
within-saves (OnDesk (RoundClose epoch end)) last within = absurd within
within-saves (OnDesk (OpenWrite statement epoch deps)) last within = refl
within-saves (OnDesk (OpenRead number statement epoch)) last within = refl
within-saves (OnDesk (Commit statement epoch)) last within = refl
within-saves (OnDesk (AbortEnd statement epoch cause)) last within = refl
within-saves (OnDesk (CloseRead number statement)) last within = refl
within-saves (OnDesk (TakeNote note counters)) last within = refl
within-saves (OnDesk (CreateCube statement decl made)) last within = refl
within-saves (OnDesk (FindCube statement name found)) last within = refl
within-saves (OnDesk (CubesFrom place cubes)) last within = refl
within-saves (OnDesk (CountersNow counters)) last within = refl
within-saves (OnDesk (StoreFailed failed)) last within = refl
within-saves (OnNames call) last within = refl
within-saves (Post mail job) last within = refl
within-saves (Fetch mail said) last within = refl
within-saves (CloseMail mail) last within = refl
within-saves NoChange last within = refl

skip-within : (xs ys : List ClientCall) → AllByRecursion IsWithinRound xs
    → saved_by_calls (xs ++ ys) ≡ saved_by_calls ys
skip-within [] ys within = refl
skip-within (call ∷ xs) ys within =
    within-saves call (saved_by_calls (xs ++ ys)) within.0 ∙ skip-within xs ys within.1

-- ---- behind the sessions' last calls

record SameOpen (s t : JournalState) : Type 0 where
  ec : t.ec ≡ s.ec
  pending : t.pending ≡ s.pending
  snapshots : t.snapshots ≡ s.snapshots

same-open : (s : JournalState) → SameOpen s s
same-open s = record { ec = refl; pending = refl; snapshots = refl }

open-kept : (o : Opening) (b : ℕ) (c : ClientCall) (k : ClientState) (s : JournalState) → FitsCall o b c k
    → (IsSession o b → ⊥) → SameOpen s (state_with_entry (client_entry b c) s)
open-kept o b (OnDesk (OpenWrite statement epoch deps)) k s f none = absurd (none f.session)
open-kept o b (OnDesk (OpenRead number statement epoch)) k s f none = absurd (none f.session)
open-kept o b (OnDesk (Commit statement epoch)) k s f none = absurd (none f.session)
open-kept o b (OnDesk (AbortEnd statement epoch cause)) k s f none = absurd (none f.session)
open-kept o b (OnDesk (CloseRead number statement)) k s f none = absurd (none f.session)
open-kept o b (OnDesk (TakeNote note counters)) k s f none = absurd (none f.session)
open-kept o b (OnDesk (CreateCube statement decl made)) k s f none = absurd (none f.0.session)
open-kept o b (OnDesk (FindCube statement name Unknown)) k s f none = absurd (none f.0)
open-kept o b (OnDesk (FindCube statement name (Found place decl))) k s f none =
    record { ec = refl; pending = refl; snapshots = refl }
open-kept o b (OnDesk (CubesFrom place cubes)) k s f none =
    record { ec = refl; pending = refl; snapshots = refl }
open-kept o b (OnDesk (CountersNow counters)) k s f none =
    record { ec = refl; pending = refl; snapshots = refl }
open-kept o b (OnDesk (RoundOpen (Target from epoch))) k s f none =
    record { ec = refl; pending = refl; snapshots = refl }
open-kept o b (OnDesk (RoundOpen (Nothing epoch))) k s f none =
    record { ec = refl; pending = refl; snapshots = refl }
open-kept o b (OnDesk (RoundClose epoch Safe)) k s f none =
    record { ec = refl; pending = refl; snapshots = refl }
open-kept o b (OnDesk (RoundClose epoch (Lost cause))) k s f none =
    record { ec = refl; pending = refl; snapshots = refl }
open-kept o b (OnDesk (StoreFailed failed)) k s f none =
    record { ec = refl; pending = refl; snapshots = refl }
open-kept o b (OnNames call) k s f none = same-open s
open-kept o b (Post mail job) k s f none = same-open s
open-kept o b (Fetch mail said) k s f none = same-open s
open-kept o b (CloseMail mail) k s f none = same-open s
open-kept o b NoChange k s f none = same-open s

-- None of these events is a session's call, nor is the newest.
quiet-rest : (o : Opening) (x : CoreEvent) (later : List CoreEvent) → HasNoSessionCalls o (x ∷ later)
    → HasNoSessionCalls o later
quiet-rest o (By b call) later quiet = λ session is. at session (b == session) (quiet session is)
  where
    at : (session : ℕ) (own : Bool) → (if own then call ∷ calls_of session later else calls_of session later) ≡ []
        → calls_of session later ≡ []
    at session true none = absurd (let long = ap length none in omega (arith, long))
    at session false none = none
quiet-rest o (At mail move) later quiet = quiet

not-session : (o : Opening) (b : ℕ) (call : ClientCall) (later : List CoreEvent)
    → HasNoSessionCalls o (By b call ∷ later) → IsSession o b → ⊥
not-session o b call later quiet is =
    let none =
    sym (ap (λ (own : Bool). if own then call ∷ calls_of b later else calls_of b later) (eq-eqb b b refl)) ∙ quiet b is
    in
    let long = ap length none in
    omega (arith, long)

event-open : (o : Opening) (x : CoreEvent) (later es : List CoreEvent) → IsCoreRun o (x ∷ es)
    → HasNoSessionCalls o (x ∷ later) → SameOpen (counters_of_run o es) (counters_of_run o (x ∷ es))
event-open o (By b call) later es run quiet =
    coe 1 0 (i. SameOpen (counters_of_run o es) (run-step o b call es i))
    (open-kept o b call (client_state o b es) (counters_of_run o es) run.1.fits (not-session o b call later quiet))
event-open o (At mail move) later es run quiet = same-open (counters_of_run o es)

still-open : (o : Opening) (later es : List CoreEvent) → IsCoreRun o (later ++ es) → HasNoSessionCalls o later
    → SameOpen (counters_of_run o es) (counters_of_run o (later ++ es))
still-open o [] es run quiet = same-open (counters_of_run o es)
still-open o (By b call ∷ later) es run quiet =
    let before = still-open o later es run.0 (quiet-rest o (By b call) later quiet) in
    let now = event-open o (By b call) later (later ++ es) run quiet in
    record {
      ec = now.ec ∙ before.ec;
      pending = now.pending ∙ before.pending;
      snapshots = now.snapshots ∙ before.snapshots;
    }
still-open o (At mail move ∷ later) es run quiet =
    let before = still-open o later es run.0 quiet in
    record { ec = before.ec; pending = before.pending; snapshots = before.snapshots }

same-lce : (s t : JournalState) → SameOpen s t → lce t ≡ lce s
same-lce s t same = λ i. fold min (same.ec i) (same.pending i) - 1

-- ---- the rounds behind them

abbrev epoch_asked : RoundAnswer → ℕ
epoch_asked (Target from epoch) = epoch
epoch_asked (Nothing epoch) = epoch

abbrev RoundsAt : ℕ → ClientCall → Type 0
RoundsAt n (OnDesk (RoundOpen said)) = epoch_asked said ≡ n
RoundsAt n call = Unit {0}

answer-epoch : (same : Bool) (lse target : ℕ)
    → epoch_asked (if same then Nothing target else Target lse target) ≡ target
answer-epoch true lse target = refl
answer-epoch false lse target = refl

asked-epoch : (s : JournalState) (said : RoundAnswer) → said ≡ round_answer s → s.snapshots ≡ []
    → epoch_asked said ≡ lce s
asked-epoch s said is none =
    ap epoch_asked is
    ∙ answer-epoch (target s == s.lse) s.lse (target s)
    ∙ ap (λ (xs : List OpenSnapshot). oldest_bound xs (lce s)) none

call-round : (o : Opening) (b : ℕ) (call : ClientCall) (es : List CoreEvent) (n : ℕ) → IsCoreRun o (By b call ∷ es)
    → (counters_of_run o es).snapshots ≡ [] → lce (counters_of_run o es) ≡ n → RoundsAt n call
call-round o b (OnDesk (RoundOpen said)) es n run none same =
    asked-epoch (counters_of_run o es) said run.1.says none ∙ same
call-round o b (OnDesk (OpenWrite statement epoch deps)) es n run none same = tt
call-round o b (OnDesk (OpenRead number statement epoch)) es n run none same = tt
call-round o b (OnDesk (Commit statement epoch)) es n run none same = tt
call-round o b (OnDesk (AbortEnd statement epoch cause)) es n run none same = tt
call-round o b (OnDesk (CloseRead number statement)) es n run none same = tt
call-round o b (OnDesk (TakeNote note counters)) es n run none same = tt
call-round o b (OnDesk (CreateCube statement decl made)) es n run none same = tt
call-round o b (OnDesk (FindCube statement name found)) es n run none same = tt
call-round o b (OnDesk (CubesFrom place cubes)) es n run none same = tt
call-round o b (OnDesk (CountersNow counters)) es n run none same = tt
call-round o b (OnDesk (StoreFailed failed)) es n run none same = tt
call-round o b (OnDesk (RoundClose epoch end)) es n run none same = tt
call-round o b (OnNames call) es n run none same = tt
call-round o b (Post mail job) es n run none same = tt
call-round o b (Fetch mail said) es n run none same = tt
call-round o b (CloseMail mail) es n run none same = tt
call-round o b NoChange es n run none same = tt

rounds-at : (o : Opening) (later es : List CoreEvent) (n : ℕ) → IsCoreRun o (later ++ es) → HasNoSessionCalls o later
    → (counters_of_run o es).snapshots ≡ [] → lce (counters_of_run o es) ≡ n
    → AllByRecursion (RoundsAt n) (calls_of (flusher o) later)
rounds-at o [] es n run quiet none same = tt
rounds-at o (By b call ∷ later) es n run quiet none same =
    let rest = quiet-rest o (By b call) later quiet in
    let open-still = still-open o later es run.0 rest in
    at (b == flusher o)
    (call-round o b call (later ++ es) n run (open-still.snapshots ∙ none)
    (same-lce (counters_of_run o es) (counters_of_run o (later ++ es)) open-still ∙ same))
    (rounds-at o later es n run.0 rest none same)
  where
    at : (own : Bool) → RoundsAt n call → AllByRecursion (RoundsAt n) (calls_of (flusher o) later)
        → AllByRecursion (RoundsAt n)
        (if own then call ∷ calls_of (flusher o) later else calls_of (flusher o) later)
    at true first rest = (first, rest)
    at false first rest = rest
rounds-at o (At mail move ∷ later) es n run quiet none same = rounds-at o later es n run.0 quiet none same

all-behind : (P : ClientCall → Type 0) (xs ys : List ClientCall) → AllByRecursion P (xs ++ ys) → AllByRecursion P ys
all-behind P [] ys all = all
all-behind P (x ∷ xs) ys all = all-behind P xs ys all.1

-- ---- the last round

record SavesAt (n epoch : ℕ) (calls : List ClientCall) : Type 0 where
  saved : saved_by_calls calls ≡ Some epoch
  at : AllByRecursion (RoundsAt n) calls → epoch ≡ n

saves : (n epoch : ℕ) (how : RoundResult) (calls more : List ClientCall) → AreOfRound how calls → HasSaved epoch how
    → SavesAt n epoch (calls ++ more)
saves n epoch (result.Safe saved) calls more h is =
    let closes = OnDesk (RoundClose saved Safe) in
    let opens = OnDesk (RoundOpen (Target h.from saved)) in
    let inner = h.between ++ opens ∷ h.earlier in
    let whole : calls ++ more ≡ h.later ++ closes ∷ (inner ++ more) =
    ap (λ (l : List ClientCall). l ++ more) h.whole ∙ append_assoc h.later (closes ∷ inner) more
    in
    let between : inner ++ more ≡ h.between ++ opens ∷ (h.earlier ++ more) =
    append_assoc h.between (opens ∷ h.earlier) more
    in
    record {
      saved =
          ap saved_by_calls whole
          ∙ skip-within h.later (closes ∷ (inner ++ more)) h.after
          ∙ ap (λ (e : ℕ). Some e) is;
      at = λ all.
          let behind =
          all-behind (RoundsAt n) h.later (closes ∷ (inner ++ more))
          (coe 0 1 (i. AllByRecursion (RoundsAt n) (whole i)) all)
          in
          let opened =
          all-behind (RoundsAt n) h.between (opens ∷ (h.earlier ++ more))
          (coe 0 1 (i. AllByRecursion (RoundsAt n) (between i)) behind.1)
          in
          sym is ∙ opened.0;
    }
saves n epoch (result.Idle saved) calls more h is =
    let opens = OnDesk (RoundOpen (Nothing saved)) in
    let whole : calls ++ more ≡ h.later ++ opens ∷ (h.earlier ++ more) =
    ap (λ (l : List ClientCall). l ++ more) h.whole ∙ append_assoc h.later (opens ∷ h.earlier) more
    in
    record {
      saved =
          ap saved_by_calls whole
          ∙ skip-within h.later (opens ∷ (h.earlier ++ more)) h.after
          ∙ ap (λ (e : ℕ). Some e) is;
      at = λ all.
          sym is
          ∙ (all-behind (RoundsAt n) h.later (opens ∷ (h.earlier ++ more))
          (coe 0 1 (i. AllByRecursion (RoundsAt n) (whole i)) all)).0;
    }
saves n epoch (result.Lost cause) calls more h is = absurd is
saves n epoch result.NoMemory calls more h is = absurd is

pub calls-joined : (a : ℕ) (later es : List CoreEvent) → calls_of a (later ++ es) ≡ calls_of a later ++ calls_of a es
calls-joined a [] es = refl
calls-joined a (By b call ∷ later) es = at (b == a) (calls-joined a later es)
  where
    at : (own : Bool) → calls_of a (later ++ es) ≡ calls_of a later ++ calls_of a es
        → (if own then call ∷ calls_of a (later ++ es) else calls_of a (later ++ es))
        ≡ (if own then call ∷ calls_of a later else calls_of a later) ++ calls_of a es
    at true rest = ap (λ (l : List ClientCall). call ∷ l) rest
    at false rest = rest
calls-joined a (At mail move ∷ later) es = calls-joined a later es

module _ (o : Opening) (later es : List CoreEvent) (epoch : ℕ) (how : RoundResult) (run : IsCoreRun o (later ++ es))
    (h : EndsByLastRound o how later es) (is : HasSaved epoch how) where
  before : IsCoreRun o es
  before = run-before o later es run

  open-now : SameOpen (counters_of_run o es) (counters_of_run o (later ++ es))
  open-now = still-open o later es run h.quiet

  of-round : SavesAt (lce (counters_of_run o (later ++ es))) epoch
      (h.round.calls ++ (h.round.older ++ calls_of (flusher o) es))
  of-round =
      saves (lce (counters_of_run o (later ++ es))) epoch how h.round.calls (h.round.older ++ calls_of (flusher o) es)
      h.round.of_round is

  in-later : SavesAt (lce (counters_of_run o (later ++ es))) epoch (h.round.calls ++ h.round.older)
  in-later = saves (lce (counters_of_run o (later ++ es))) epoch how h.round.calls h.round.older h.round.of_round is

  pub saved-last : last_saved (journal_of o (later ++ es)) ≡ Some epoch
  saved-last =
      saved-by-flusher o (later ++ es) run
      ∙ ap saved_by_calls (calls-joined (flusher o) later es
      ∙ ap (λ (l : List ClientCall). l ++ calls_of (flusher o) es) h.round.whole
      ∙ append_assoc h.round.calls h.round.older (calls_of (flusher o) es))
      ∙ of-round.saved

  pub saved-lce : epoch ≡ lce (counters_of_run o (later ++ es))
  saved-lce =
      in-later.at (coe 0 1 (i. AllByRecursion (RoundsAt (lce (counters_of_run o (later ++ es)))) (h.round.whole i))
      (rounds-at o later es (lce (counters_of_run o (later ++ es))) run h.quiet (none-open o es before h.nothing)
      (sym (same-lce (counters_of_run o es) (counters_of_run o (later ++ es)) open-now))))

  pub saved-lse : lse_of o (later ++ es) ≡ epoch
  saved-lse = saved-at-lse o (later ++ es) run epoch saved-last

  pub all-safe : AllIsSafe o (later ++ es)
  all-safe =
      let s = counters_of_run o (later ++ es) in
      let none : s.pending ≡ [] = open-now.pending ∙ none-pending o es before h.nothing in
      let least : lce s ≡ s.ec - 1 = ap (λ (l : List ℕ). fold min s.ec l - 1) none in
      let next = (run-order o (later ++ es) run).next in
      let at = saved-lse in
      let high = saved-lce in
      omega (arith, least, next, at, high)
