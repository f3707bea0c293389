-- The counters with which a session's note was taken are those of the journal before its statement.
use Rattle.std.proofs.Common.{◌≡◌, ◌∙◌, ℕ, ◌+◌, ◌<◌, ◌≤◌, ◌==◌, Bool, true, false, not, ◌&&◌, cond, nat_le, List, [], ◌∷◌, ◌++◌, length, Option, Some, None, refl, sym, ap, subst, arith, append_assoc, append-nil, eqb-true}
use Rattle.std.specs.Option.{IsSomeAnd, option_map_or}
use Rattle.std.proofs.lemmas.Bool.Decides.{nat_tests}
use Rattle.std.proofs.lemmas.List.Sums.{take_while-cons}
use Rattle.cube_journal.specs.Counters.{counters, counters_in}
use Rattle.cube_journal.specs.Entries.{note_entry, statement_of}
use Rattle.cube_journal.specs.declared.counters.Counters.{Counters}
use Rattle.cube_journal.specs.declared.journal_entry.JournalEntry.{JournalEntry}
use Rattle.cube_journal.specs.declared.note.Note.{Note}
use Rattle.turn_board.specs.History.{of_caller}
use Rattle.cube_run.specs.SessionSteps.{belongs_to, is_from, journal_before, session_part}
use Rattle.core_program.specs.ClientCalls.{desk_entry}
use Rattle.cube_core.specs.Links.{AreEventsOf}
use Rattle.cube_core.specs.BoardCells.{IsEntryEvent}
use Rattle.core_cells.specs.declared.desk.DeskAnswer.TheVariants as answer
use Rattle.core_cells.specs.declared.desk.DeskCall.TheVariants as call
use Rattle.core_program.proofs.KnownCalls.{client-part, desk-learns, earlier-run, go-on-from}
use Rattle.core_program.specs.Knowing.{IsClientOf, IsLaterRun, IsSessionOf}
use Rattle.core_events.proofs.DeskSteps.{client_entry}
use Rattle.core_events.specs.Clients.{calls_of}
use Rattle.core_events.specs.Events.{Opening, OnDesk, TakeNote, ClientCall, CoreEvent, By, At}
use Rattle.core_events.specs.Jobs.{CoreJob, JobOutcome}
use Rattle.core_events.specs.Runs.{IsCoreRun}
use Rattle.core_events.specs.ShardView.{ShardView}
use Rattle.core_serial.proofs.Entries.{journal_with, journal-step, run-counters}
use Rattle.core_serial.specs.Journals.{journal_of}
use Rattle.core_states.specs.OwnCalls.{OwnCallsLeave}
use Rattle.core_program.specs.CoreFits.{CoreEntry}
use Rattle.core_records.proofs.CubesOnRecord.{run-before}
use Rattle.core_records.proofs.SessionParts.{own-part}
use Rattle.core_records.specs.OwnEntries.{entries_by_calls}
use Rattle.cube_core.specs.declared.cell.CoreCell.{CoreCell}
use Rattle.cube_core.specs.declared.shard.ShardAnswer.{ShardAnswer}
use Rattle.cube_core.specs.declared.shard.ShardCall.{ShardCall}
use Rattle.played_scripts.specs.PlayedRuns.{AreNumbered}
use Rattle.one_session.proofs.Entries.{lower_first}

-- ---- the journal before the next entry of a session

le-no : (a b : ℕ) → b < a → nat_le a b ≡ false
le-no a b l = grind (arith, nat_tests)

earlier-at : (number first last : ℕ) (part : List JournalEntry) (o : Option ℕ) → last < number → 1 ≤ first
    → IsSomeAnd o (λ j. (first ≤ j) × (j ≤ last) × AreNumbered j last part)
    → (option_map_or (λ j. nat_le number j) o false ≡ false) × AreNumbered 1 last part
earlier-at number first last part None l f h = absurd h
earlier-at number first last part (Some j) l f h =
    let low = h.0 in
    let high = h.1 in
    (le-no number j (omega (arith, l, high)), lower_first 1 j last part (omega (arith, low, f)) h.2)

pub before-next : (session number last : ℕ) (front : List JournalEntry) (e : JournalEntry) (back : List JournalEntry)
    → last < number → AreNumbered 1 last (session_part session front) → is_from session number e ≡ true
    → journal_before session number (front ++ e ∷ back) ≡ front
before-next session number last [] e back l h from =
    take_while-cons (λ e. not (is_from session number e)) e back
    ∙ ap (λ (b : Bool). cond (not b) (e ∷ journal_before session number back) []) from
before-next session number last (x ∷ front) e back l h from =
    at (belongs_to session x) refl h (λ rest. before-next session number last front e back l rest from)
  where
    at : (b : Bool) → belongs_to session x ≡ b
        → AreNumbered 1 last (cond b (x ∷ session_part session front) (session_part session front))
        → (AreNumbered 1 last (session_part session front)
        → journal_before session number (front ++ e ∷ back) ≡ front)
        → journal_before session number (x ∷ (front ++ e ∷ back)) ≡ x ∷ front
    at true is h rest =
        let here = earlier-at number 1 last (session_part session front) (statement_of x) l (omega arith) h in
        take_while-cons (λ e. not (is_from session number e)) x (front ++ e ∷ back)
        ∙ (λ i. cond (not (is i && here.0 i)) (x ∷ journal_before session number (front ++ e ∷ back)) [])
        ∙ ap (λ (es : List JournalEntry). x ∷ es) (rest here.1)
    at false is h rest =
        take_while-cons (λ e. not (is_from session number e)) x (front ++ e ∷ back)
        ∙ (λ i. cond (not (is i && option_map_or (λ j. nat_le number j) (statement_of x) false))
        (x ∷ journal_before session number (front ++ e ∷ back)) [])
        ∙ ap (λ (es : List JournalEntry). x ∷ es) (rest h)

-- ---- the moment of a client's call

-- A run in which a client's call has these calls of it before.
pub record PassesCall (a : ℕ) (run : List CoreEvent) (c : ClientCall) (calls : List ClientCall) : Type 0 where
  pub newer : List CoreEvent
  pub base : List CoreEvent
  pub whole : run ≡ newer ++ By a c ∷ base
  pub before : calls_of a base ≡ calls

abbrev first-call : ClientCall → List ClientCall → ClientCall
first-call other [] = other
first-call other (c ∷ calls) = c

abbrev behind-first : List ClientCall → List ClientCall
behind-first [] = []
behind-first (c ∷ calls) = calls

no-call : (front : List ClientCall) (c : ClientCall) (calls : List ClientCall) → [] ≡ front ++ c ∷ calls → ⊥
no-call [] c calls is = let many = ap (λ (l : List ClientCall). length l) is in omega (arith, many)
no-call (x ∷ front) c calls is = let many = ap (λ (l : List ClientCall). length l) is in omega (arith, many)

one-newer : (a : ℕ) (e : CoreEvent) (es : List CoreEvent) (c : ClientCall) (calls : List ClientCall)
    → PassesCall a es c calls → PassesCall a (e ∷ es) c calls
one-newer a e es c calls r = record {
  newer = e ∷ r.newer;
  base = r.base;
  whole = ap (λ (l : List CoreEvent). e ∷ l) r.whole;
  before = r.before;
}

by-call : (t : Bool) (a b : ℕ) (x : ClientCall) (es : List CoreEvent) (front : List ClientCall) (c : ClientCall)
    (calls : List ClientCall) → (b == a) ≡ t → cond t (x ∷ calls_of a es) (calls_of a es) ≡ front ++ c ∷ calls
    → ((front : List ClientCall) → calls_of a es ≡ front ++ c ∷ calls → PassesCall a es c calls)
    → PassesCall a (By b x ∷ es) c calls
by-call true a b x es [] c calls own is rest = record {
  newer = [];
  base = es;
  whole = λ i. By (eqb-true b a own i) (ap (first-call x) is i) ∷ es;
  before = ap behind-first is;
}
by-call true a b x es (y ∷ front) c calls own is rest =
    one-newer a (By b x) es c calls (rest front (ap behind-first is))
by-call false a b x es front c calls own is rest = one-newer a (By b x) es c calls (rest front is)

pub passes-call : (a : ℕ) (run : List CoreEvent) (front : List ClientCall) (c : ClientCall) (calls : List ClientCall)
    → calls_of a run ≡ front ++ c ∷ calls → PassesCall a run c calls
passes-call a [] front c calls is = absurd (no-call front c calls is)
passes-call a (By b x ∷ es) front c calls is =
    by-call (b == a) a b x es front c calls refl is (λ front is. passes-call a es front c calls is)
passes-call a (At mail move ∷ es) front c calls is =
    one-newer a (At mail move) es c calls (passes-call a es front c calls is)

-- Calls of events and of older ones.
by-both : (t : Bool) (x : ClientCall) (newer older all : List ClientCall) → all ≡ newer ++ older
    → cond t (x ∷ all) all ≡ cond t (x ∷ newer) newer ++ older
by-both true x newer older all is = ap (λ (l : List ClientCall). x ∷ l) is
by-both false x newer older all is = is

pub calls-of-both : (a : ℕ) (newer older : List CoreEvent) → calls_of a (newer ++ older) ≡ calls_of a newer ++ calls_of a older
calls-of-both a [] older = refl
calls-of-both a (By b x ∷ newer) older =
    by-both (b == a) x (calls_of a newer) (calls_of a older) (calls_of a (newer ++ older)) (calls-of-both a newer older)
calls-of-both a (At mail move ∷ newer) older = calls-of-both a newer older

-- ---- journals only grow

entry-more : (e : Option JournalEntry) (before rest : List JournalEntry)
    → (more : List JournalEntry) × (journal_with e (before ++ rest) ≡ before ++ more)
entry-more None before rest = (rest, refl)
entry-more (Some e) before rest = (rest ++ e ∷ [], append_assoc before rest (e ∷ []))

pub journal-grows : (o : Opening) (newer es : List CoreEvent)
    → (more : List JournalEntry) × (journal_of o (newer ++ es) ≡ journal_of o es ++ more)
journal-grows o [] es = ([], sym (append-nil (journal_of o es)))
journal-grows o (By b c ∷ newer) es =
    let rest = journal-grows o newer es in
    let one = entry-more (client_entry b c) (journal_of o es) rest.0 in
    (one.0, journal-step o b c (newer ++ es) ∙ ap (journal_with (client_entry b c)) rest.1 ∙ one.1)
journal-grows o (At mail move ∷ newer) es = journal-grows o newer es

-- ---- the counters of a note

module _ {S : Type 0} (fits : Opening → ℕ → ShardCall → Type 0) (stands : Opening → ℕ → ℕ → S → ShardView → Type 0)
    (says : CoreJob → ShardAnswer → JobOutcome → Type 0) (cells : List (CoreCell S)) (caller session : ℕ)
    (acts : IsClientOf fits stands says cells caller session)
    (of_run : IsSessionOf fits stands says cells session) (own now : List CoreEntry) (note : Note) (shown : Counters)
    (is : now ≡ own ++ desk_entry caller (call.Note note) (answer.Counted shown) ∷ [])
    (number last : ℕ) (entries : List JournalEntry) (leave : OwnCallsLeave fits stands says cells caller session own entries)
    (turn : AreNumbered 1 last entries) (below : last < number)
    (from : is_from session number (note_entry note) ≡ true) where
  pub noted-counters : (o : Opening) (log : List CoreEntry) (events : List CoreEvent)
      → IsLaterRun fits stands says cells o caller now log events
      → shown ≡ counters o.safe (journal_before session number (journal_of o events))
  noted-counters o log events later =
      let one = desk_entry caller (call.Note note) (answer.Counted shown) ∷ [] in
      let client_is = acts.client_is o log later.opens in
      let part = client-part fits stands says o caller log events (acts.acts o log later.opens) later.events in
      let same : calls_of session events ≡ calls_of session part.own =
      coe 1 0 (i. calls_of (client_is i) events ≡ calls_of (client_is i) part.own) part.same
      in
      let begin : of_caller caller log ≡ now ++ later.begins.0 = sym later.begins.1 in
      let first = go-on-from fits stands says cells o now later.begins.0 part.own
      (subst (λ (l : List CoreEntry). AreEventsOf (IsEntryEvent fits stands says o) l part.own) begin part.events)
      in
      let g =
      desk-learns fits stands says cells caller session acts own (call.Note note) (answer.Counted shown) o log first.before
      later.opens (subst (λ (l : List CoreEntry). AreEventsOf (IsEntryEvent fits stands says o) l first.before) is first.events)
      in
      let c : ClientCall = OnDesk (TakeNote note shown) in
      let l : PassesCall session events c (calls_of session g.before) =
      passes-call session events (calls_of session first.newer) c (calls_of session g.before)
      (same ∙ ap (calls_of session) first.whole ∙ calls-of-both session first.newer first.before
      ∙ ap (λ (cs : List ClientCall). calls_of session first.newer ++ cs) g.calls)
      in
      let here : IsCoreRun o (By session c ∷ l.base) =
      run-before o l.newer (By session c ∷ l.base) (subst (λ (r : List CoreEvent). IsCoreRun o r) l.whole later.is_run)
      in
      let before : List JournalEntry = journal_of o l.base in
      let earlier : IsLaterRun fits stands says cells o caller own log events =
      earlier-run fits stands says cells o caller own one log events
      (subst (λ (l : List CoreEntry). IsLaterRun fits stands says cells o caller l log events) is later)
      in
      let part : session_part session before ≡ entries =
      own-part o l.base session here.0 (of_run o log later.opens)
      ∙ ap (entries_by_calls o session) l.before
      ∙ leave o log events g.before earlier g.events
      in
      let more = journal-grows o l.newer (By session c ∷ l.base) in
      let journal : journal_of o events ≡ before ++ note_entry note ∷ more.0 =
      ap (journal_of o) l.whole ∙ more.1
      ∙ ap (λ (j : List JournalEntry). j ++ more.0) (journal-step o session c l.base)
      ∙ append_assoc before (note_entry note ∷ []) more.0
      in
      here.1.says
      ∙ ap counters_in (run-counters o l.base)
      ∙ ap (counters o.safe)
      (sym (ap (journal_before session number) journal
      ∙ before-next session number last before (note_entry note) more.0 below
      (subst (λ (es : List JournalEntry). AreNumbered 1 last es) (sym part) turn) from))
