-- A cube that a session found stands there before its statement.
use Rattle.std.proofs.Common.{◌≡◌, ◌∙◌, ℕ, ◌<◌, ◌≤◌, Bool, true, false, not, ◌&&◌, cond, nat_le, List, [], ◌∷◌, ◌++◌, slice_get, Option, Some, None, refl, sym, ap, subst, arith, append_assoc, eqb-true}
use Rattle.std.specs.List.{All, filter_map}
use Rattle.std.specs.Option.{IsSomeAnd, option_map_or}
use Rattle.std.proofs.lemmas.Bool.Decides.{nat_tests}
use Rattle.std.proofs.lemmas.List.Elements.{All-head, All-tail, filter_map-append, filter_passes}
use Rattle.std.proofs.lemmas.List.Sums.{take_while-cons}
use Rattle.aosi_desk.specs.Desks.{IsFound}
use Rattle.aosi_desk.specs.declared.cube.CubeFound.TheVariants.{Found}
use Rattle.core_program.specs.ClientCalls.{desk_entry}
use Rattle.cube_core.specs.Links.{AreEventsOf}
use Rattle.cube_core.specs.BoardCells.{IsEntryEvent}
use Rattle.core_program.proofs.KnownCalls.{client-part, desk-learns, earlier-run, go-on-from}
use Rattle.core_program.specs.Knowing.{IsClientOf, IsLaterRun, IsSessionOf}
use Rattle.core_cells.specs.declared.desk.DeskAnswer.TheVariants as answer
use Rattle.core_cells.specs.declared.desk.DeskCall.TheVariants as call
use Rattle.core_cubes.specs.StandingCubes.{HasFound, StandsBefore}
use Rattle.core_events.specs.Cells.{desk_of}
use Rattle.core_events.specs.Clients.{calls_of}
use Rattle.core_events.specs.Events.{Opening, OnDesk, FindCube, ClientCall, CoreEvent, By}
use Rattle.core_events.specs.Jobs.{CoreJob, JobOutcome}
use Rattle.core_events.specs.Runs.{IsCoreRun}
use Rattle.core_events.specs.ShardView.{ShardView}
use Rattle.core_serial.proofs.Entries.{journal-step}
use Rattle.core_serial.specs.Journals.{journal_of}
use Rattle.core_states.specs.CorePasts.{last_number}
use Rattle.core_program.specs.CoreFits.{CoreEntry}
use Rattle.core_records.proofs.CubesOnRecord.{cubes-are, follow-before, run-before}
use Rattle.core_records.proofs.SessionParts.{own-part}
use Rattle.core_records.specs.CoreRecords.{record_of}
use Rattle.core_records.specs.OwnEntries.{entries_by_calls}
use Rattle.core_records.specs.ScriptedCalls.{FollowScripts}
use Rattle.core_states.proofs.LeftCalls.{longer-front}
use Rattle.core_states.proofs.Moments.{moment-of}
use Rattle.core_states.proofs.NotedCounters.{PassesCall, calls-of-both, journal-grows, passes-call}
use Rattle.cube_core.specs.declared.cell.CoreCell.{CoreCell}
use Rattle.cube_core.specs.declared.shard.ShardAnswer.{ShardAnswer}
use Rattle.cube_core.specs.declared.shard.ShardCall.{ShardCall}
use Rattle.cube_journal.specs.Entries.{statement_of}
use Rattle.cube_journal.specs.declared.journal_entry.JournalEntry.{JournalEntry}
use Rattle.cube_language.specs.declared.decl.Decl.{Decl}
use Rattle.cube_run.specs.RunRecords.{RunRecord, cubes_at, made_by}
use Rattle.cube_run.specs.SessionSteps.{belongs_to, is_from, journal_before, session_part}
use Rattle.one_session.proofs.CubesBehind.{some_front}
use Rattle.one_session.proofs.Entries.{lower_first}
use Rattle.played_scripts.specs.PlayedRuns.{AreNumbered}
use Rattle.known_cubes.proofs.ToldCubes.{told-later, told-newest}
use Rattle.known_cubes.specs.KnownCubes.{IsToldOfCube, by_search}
use Rattle.turn_board.specs.History.{is_by_caller, of_caller}
use mathlib.Core.List.{IsPrefix}

-- ---- entries of earlier statements stand before a statement

le-no : (a b : ℕ) → b < a → nat_le a b ≡ false
le-no a b l = grind (arith, nat_tests)

earlier-at : (number first last : ℕ) (part : List JournalEntry) (o : Option ℕ) → last < number → 1 ≤ first
    → IsSomeAnd o (λ j. (first ≤ j) × (j ≤ last) × AreNumbered j last part)
    → (option_map_or (λ j. nat_le number j) o false ≡ false) × AreNumbered 1 last part
earlier-at number first last part None l f h = absurd h
earlier-at number first last part (Some j) l f h =
    let low = h.0 in
    let high = h.1 in
    (le-no number j (omega (arith, l, high)), lower_first 1 j last part (omega (arith, low, f)) h.2)

before-both : (session number last : ℕ) (front back : List JournalEntry) → last < number
    → AreNumbered 1 last (session_part session front)
    → journal_before session number (front ++ back) ≡ front ++ journal_before session number back
before-both session number last [] back l h = refl
before-both session number last (x ∷ front) back l h =
    at (belongs_to session x) refl h (λ rest. before-both session number last front back l rest)
  where
    at : (b : Bool) → belongs_to session x ≡ b
        → AreNumbered 1 last (cond b (x ∷ session_part session front) (session_part session front))
        → (AreNumbered 1 last (session_part session front)
        → journal_before session number (front ++ back) ≡ front ++ journal_before session number back)
        → journal_before session number (x ∷ (front ++ back)) ≡ x ∷ (front ++ journal_before session number back)
    at true is h rest =
        let here = earlier-at number 1 last (session_part session front) (statement_of x) l (omega arith) h in
        take_while-cons (λ e. not (is_from session number e)) x (front ++ back)
        ∙ (λ i. cond (not (is i && here.0 i)) (x ∷ journal_before session number (front ++ back)) [])
        ∙ ap (λ (es : List JournalEntry). x ∷ es) (rest here.1)
    at false is h rest =
        take_while-cons (λ e. not (is_from session number e)) x (front ++ back)
        ∙ (λ i. cond (not (is i && option_map_or (λ j. nat_le number j) (statement_of x) false))
        (x ∷ journal_before session number (front ++ back)) [])
        ∙ ap (λ (es : List JournalEntry). x ∷ es) (rest h)

-- ---- cubes stay with more entries

cubes-of-both : (run : RunRecord) (front back : List JournalEntry)
    → cubes_at run (front ++ back) ≡ cubes_at run front ++ filter_map (made_by run) back
cubes-of-both run front back =
    ap (λ (made : List Decl). run.cubes ++ made) (filter_map-append (made_by run) front back)
    ∙ sym (append_assoc run.cubes (filter_map (made_by run) front) (filter_map (made_by run) back))

stays-found : (run : RunRecord) (front back : List JournalEntry) (name : List ℕ) (place : ℕ) (d : Decl)
    → IsFound (cubes_at run front) name (Found place d) → IsFound (cubes_at run (front ++ back)) name (Found place d)
stays-found run front back name place d is = (
  ap (λ (cubes : List Decl). slice_get cubes place) (cubes-of-both run front back)
      ∙ some_front (cubes_at run front) (filter_map (made_by run) back) place d is.0,
  is.1,
)

module _ {S : Type 0} (fits : Opening → ℕ → ShardCall → Type 0) (stands : Opening → ℕ → ℕ → S → ShardView → Type 0)
    (says : CoreJob → ShardAnswer → JobOutcome → Type 0) (cells : List (CoreCell S)) (caller session : ℕ)
    (acts : IsClientOf fits stands says cells caller session)
    (of_run : IsSessionOf fits stands says cells session) (own now : List CoreEntry) (statement : ℕ) (name : List ℕ)
    (place : ℕ) (d : Decl)
    (is : now ≡ own ++ desk_entry caller (call.FindCube session statement name) (answer.Found (Found place d)) ∷ []) where
  pub stands-before : (number : ℕ) → StandsBefore fits stands says cells caller session number own now name place d
  stands-before number past st below o given log events later follow =
      let one = desk_entry caller (call.FindCube session statement name) (answer.Found (Found place d)) ∷ [] in
      let client_is = acts.client_is o log later.opens in
      let part = client-part fits stands says o caller log events (acts.acts o log later.opens) later.events in
      let same : calls_of session events ≡ calls_of session part.own =
      coe 1 0 (i. calls_of (client_is i) events ≡ calls_of (client_is i) part.own) part.same
      in
      let begin : of_caller caller log ≡ now ++ later.begins.0 = sym later.begins.1 in
      let first = go-on-from fits stands says cells o now later.begins.0 part.own
      (subst (λ (l : List CoreEntry). AreEventsOf (IsEntryEvent fits stands says o) l part.own) begin part.events)
      in
      let g =
      desk-learns fits stands says cells caller session acts own (call.FindCube session statement name)
      (answer.Found (Found place d)) o log first.before later.opens
      (subst (λ (l : List CoreEntry). AreEventsOf (IsEntryEvent fits stands says o) l first.before) is first.events)
      in
      let c : ClientCall = OnDesk (FindCube statement name (Found place d)) in
      let l : PassesCall session events c (calls_of session g.before) =
      passes-call session events (calls_of session first.newer) c (calls_of session g.before)
      (same ∙ ap (calls_of session) first.whole ∙ calls-of-both session first.newer first.before
      ∙ ap (λ (cs : List ClientCall). calls_of session first.newer ++ cs) g.calls)
      in
      let here : IsCoreRun o (By session c ∷ l.base) =
      run-before o l.newer (By session c ∷ l.base) (subst (λ (r : List CoreEvent). IsCoreRun o r) l.whole later.is_run)
      in
      let before : List JournalEntry = journal_of o l.base in
      let earlier : IsLaterRun fits stands says cells o caller own log events =
      earlier-run fits stands says cells o caller own one log events
      (subst (λ (l : List CoreEntry). IsLaterRun fits stands says cells o caller l log events) is later)
      in
      let part : session_part session before ≡ past.entries =
      own-part o l.base session here.0 (of_run o log later.opens)
      ∙ ap (entries_by_calls o session) l.before
      ∙ st.leaves o log events g.before earlier g.events
      in
      let more = journal-grows o l.newer (By session c ∷ l.base) in
      let journal : journal_of o events ≡ before ++ more.0 =
      ap (journal_of o) l.whole ∙ more.1
      ∙ ap (λ (j : List JournalEntry). j ++ more.0) (journal-step o session c l.base)
      in
      let run : RunRecord = record_of o given events in
      let cubes : cubes_at run before ≡ (desk_of o l.base).cubes =
      cubes-are o given events l.base here.0
      (follow-before o given (By session c ∷ []) l.base
      (follow-before o given l.newer (By session c ∷ l.base)
      (subst (λ (r : List CoreEvent). FollowScripts o given r) l.whole follow)))
      in
      let found : IsFound (cubes_at run before) name (Found place d) =
      subst (λ (ds : List Decl). IsFound ds name (Found place d)) (sym cubes) here.1.says
      in
      subst (λ (j : List JournalEntry). IsFound (cubes_at run j) name (Found place d))
      (sym (ap (journal_before session number) journal
      ∙ before-both session number (last_number past) before more.0 below
      (subst (λ (es : List JournalEntry). AreNumbered 1 (last_number past) es) (sym part) st.turn)))
      (stays-found run before (journal_before session number more.0) name place d found)

-- ---- a cube that a session once found

-- It was told of it.
pub told-by-finding : (own : List CoreEntry) (name : List ℕ) (place : ℕ) (d : Decl) → HasFound own name place d
    → IsToldOfCube own name place d
told-by-finding own name place d f =
    let e = desk_entry f.caller (call.FindCube f.session f.statement name) (answer.Found (Found place d)) in
    subst (λ (l : List CoreEntry). IsToldOfCube l name place d) f.begins.1
    (told-later (f.before ++ e ∷ []) f.begins.0 name place d
    (told-newest f.before e name place d (by_search f.session f.statement)))

-- So it is with more calls.
pub found-later : (own now : List CoreEntry) (name : List ℕ) (place : ℕ) (d : Decl) → IsPrefix own now
    → HasFound own name place d → HasFound now name place d
found-later own now name place d more f = record {
  before = f.before;
  caller = f.caller;
  session = f.session;
  statement = f.statement;
  begins =
      longer-front
      (f.before ++ desk_entry f.caller (call.FindCube f.session f.statement name) (answer.Found (Found place d)) ∷ [])
      own now f.begins more;
}

-- One of the calls of a caller is by it.
by-caller : (caller : ℕ) (before after : List CoreEntry) (e : CoreEntry)
    → All (λ (x : CoreEntry). is_by_caller caller x ≡ true) (before ++ e ∷ after) → is_by_caller caller e ≡ true
by-caller caller [] after e all = All-head (λ (x : CoreEntry). is_by_caller caller x ≡ true) e after all
by-caller caller (x ∷ before) after e all =
    by-caller caller before after e
    (All-tail (λ (x : CoreEntry). is_by_caller caller x ≡ true) x (before ++ e ∷ after) all)

module _ {S : Type 0} (fits : Opening → ℕ → ShardCall → Type 0) (stands : Opening → ℕ → ℕ → S → ShardView → Type 0)
    (says : CoreJob → ShardAnswer → JobOutcome → Type 0) (cells : List (CoreCell S)) (caller session : ℕ)
    (acts : IsClientOf fits stands says cells caller session)
    (of_run : IsSessionOf fits stands says cells session) (own : List CoreEntry) (name : List ℕ) (place : ℕ) (d : Decl)
    (f : HasFound own name place d) where
  abbrev searched : ℕ → CoreEntry
  searched by = desk_entry by (call.FindCube f.session f.statement name) (answer.Found (Found place d))

  own-search : (log : List CoreEntry) → IsPrefix own (of_caller caller log) → f.caller ≡ caller
  own-search log begins =
      let whole : f.before ++ searched f.caller ∷ (f.begins.0 ++ begins.0) ≡ of_caller caller log =
      sym (append_assoc f.before (searched f.caller ∷ []) (f.begins.0 ++ begins.0))
      ∙ sym (append_assoc (f.before ++ searched f.caller ∷ []) f.begins.0 begins.0)
      ∙ ap (λ (l : List CoreEntry). l ++ begins.0) f.begins.1
      ∙ begins.1
      in
      eqb-true f.caller caller
      (by-caller caller f.before (f.begins.0 ++ begins.0) (searched f.caller)
      (subst (λ (l : List CoreEntry). All (λ (x : CoreEntry). is_by_caller caller x ≡ true) l) (sym whole)
      (filter_passes (is_by_caller caller) log)))

  -- It stands before each statement to come.
  pub stands-later : (number : ℕ) → StandsBefore fits stands says cells caller session number own own name place d
  stands-later number past st below o given log events later follow =
      let client_is = acts.client_is o log later.opens in
      let part = client-part fits stands says o caller log events (acts.acts o log later.opens) later.events in
      let same : calls_of session events ≡ calls_of session part.own =
      coe 1 0 (i. calls_of (client_is i) events ≡ calls_of (client_is i) part.own) part.same
      in
      let begin : of_caller caller log ≡ own ++ later.begins.0 = sym later.begins.1 in
      let first = go-on-from fits stands says cells o own later.begins.0 part.own
      (subst (λ (l : List CoreEntry). AreEventsOf (IsEntryEvent fits stands says o) l part.own) begin part.events)
      in
      let m =
      moment-of session events (calls_of session first.newer) (calls_of session first.before)
      (same ∙ ap (calls_of session) first.whole ∙ calls-of-both session first.newer first.before)
      in
      let run_then : IsCoreRun o m.es =
      run-before o m.later m.es (subst (λ (r : List CoreEvent). IsCoreRun o r) m.whole later.is_run)
      in
      let by = own-search log later.begins in
      let split : own ≡ (f.before ++ searched caller ∷ []) ++ f.begins.0 =
      sym f.begins.1 ∙ ap (λ (n : ℕ). (f.before ++ searched n ∷ []) ++ f.begins.0) by
      in
      let inner = go-on-from fits stands says cells o (f.before ++ searched caller ∷ []) f.begins.0 first.before
      (subst (λ (l : List CoreEntry). AreEventsOf (IsEntryEvent fits stands says o) l first.before) split first.events)
      in
      let g =
      desk-learns fits stands says cells caller session acts f.before (call.FindCube f.session f.statement name)
      (answer.Found (Found place d)) o log inner.before later.opens inner.events
      in
      let c : ClientCall = OnDesk (FindCube f.statement name (Found place d)) in
      let l : PassesCall session m.es c (calls_of session g.before) =
      passes-call session m.es (calls_of session inner.newer) c (calls_of session g.before)
      (sym m.made ∙ ap (calls_of session) inner.whole ∙ calls-of-both session inner.newer inner.before
      ∙ ap (λ (cs : List ClientCall). calls_of session inner.newer ++ cs) g.calls)
      in
      let here : IsCoreRun o (By session c ∷ l.base) =
      run-before o l.newer (By session c ∷ l.base) (subst (λ (r : List CoreEvent). IsCoreRun o r) l.whole run_then)
      in
      let before : List JournalEntry = journal_of o l.base in
      let more = journal-grows o l.newer (By session c ∷ l.base) in
      let until : journal_of o m.es ≡ before ++ more.0 =
      ap (journal_of o) l.whole ∙ more.1
      ∙ ap (λ (j : List JournalEntry). j ++ more.0) (journal-step o session c l.base)
      in
      let rest = journal-grows o m.later m.es in
      let journal : journal_of o events ≡ journal_of o m.es ++ rest.0 = ap (journal_of o) m.whole ∙ rest.1 in
      let part_is : session_part session (journal_of o m.es) ≡ past.entries =
      own-part o m.es session run_then (of_run o log later.opens)
      ∙ ap (entries_by_calls o session) (sym m.made)
      ∙ st.leaves o log events first.before later first.events
      in
      let run : RunRecord = record_of o given events in
      let follow_then = follow-before o given m.later m.es
      (subst (λ (r : List CoreEvent). FollowScripts o given r) m.whole follow)
      in
      let cubes : cubes_at run before ≡ (desk_of o l.base).cubes =
      cubes-are o given events l.base here.0
      (follow-before o given (By session c ∷ []) l.base
      (follow-before o given l.newer (By session c ∷ l.base)
      (subst (λ (r : List CoreEvent). FollowScripts o given r) l.whole follow_then)))
      in
      let found : IsFound (cubes_at run before) name (Found place d) =
      subst (λ (ds : List Decl). IsFound ds name (Found place d)) (sym cubes) here.1.says
      in
      let found_then : IsFound (cubes_at run (journal_of o m.es)) name (Found place d) =
      subst (λ (j : List JournalEntry). IsFound (cubes_at run j) name (Found place d)) (sym until)
      (stays-found run before more.0 name place d found)
      in
      subst (λ (j : List JournalEntry). IsFound (cubes_at run j) name (Found place d))
      (sym (ap (journal_before session number) journal
      ∙ before-both session number (last_number past) (journal_of o m.es) rest.0 below
      (subst (λ (es : List JournalEntry). AreNumbered 1 (last_number past) es) (sym part_is) st.turn)))
      (stays-found run (journal_of o m.es) (journal_before session number rest.0) name place d found_then)
