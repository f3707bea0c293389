-- Posts that stand for what is behind a session go on standing with calls and statements more.
use Rattle.std.proofs.Common.{◌≡◌, ◌≢◌, ◌∙◌, ℕ, ◌+◌, Bool, true, false, true≢false, ◌||◌, List, [], ◌∷◌, ◌++◌, slice_get, Option, Some, None, inl, inr, refl, sym, ap, subst, arith, append-nil}
use Rattle.std.specs.List.{cons_option, filter_map, list_any}
use Rattle.std.proofs.lemmas.Bool.Decides.{eqb_tells}
use Rattle.std.proofs.lemmas.List.Elements.{filter_map-append}
use Rattle.std.proofs.lemmas.List.Folds.{list_any-append}
use Rattle.std.proofs.lemmas.Option.{same_Some}
use mathlib.Core.List.{IsPrefix}
use Rattle.condition_spans.specs.Codes.{lists_at}
use Rattle.core_agreements.specs.PostsForOperations.{PostsStandFor, no_posts}
use Rattle.cube_core.specs.Links.{AreEventsOf}
use Rattle.cube_core.specs.BoardCells.{IsEntryEvent}
use Rattle.core_program.proofs.KnownCalls.{earlier-run}
use Rattle.core_program.specs.Knowing.{IsLaterRun}
use Rattle.core_events.specs.Clients.{calls_of}
use Rattle.core_events.specs.Events.{Opening, ClientCall, CoreEvent}
use Rattle.core_events.specs.Jobs.{CoreJob, JobOutcome}
use Rattle.core_events.specs.Serial.{CubeOperation}
use Rattle.core_events.specs.ShardView.{ShardView}
use Rattle.core_states.proofs.LongerPasts.{run-before, same-step}
use Rattle.core_states.specs.CorePasts.{CorePast, IsInTurn, IsOneMore, last_number, last_step, nothing_behind}
use Rattle.core_states.specs.RunsFrom.{IsRunFrom, RunClaim}
use Rattle.core_program.specs.CoreFits.{CoreEntry}
use Rattle.core_records.specs.CoreRecords.{RunScripts, record_of}
use Rattle.core_serial.specs.OwnOperations.{operations_by_calls}
use Rattle.cube_core.specs.declared.cell.CoreCell.{CoreCell}
use Rattle.cube_core.specs.declared.shard.ShardAnswer.{ShardAnswer}
use Rattle.cube_core.specs.declared.shard.ShardCall.{ShardCall}
use Rattle.cube_journal.specs.declared.journal_entry.JournalEntry.{JournalEntry}
use Rattle.cube_language.specs.declared.decl.Decl.{Decl}
use Rattle.cube_run.specs.RunRecords.{Sentence, catalog_of}
use Rattle.cube_run.specs.RunTransactions.{DoneOperation, operation_done, operations_at, session_operations}
use Rattle.cube_run.specs.SessionStates.{SessionState, fresh_session, session_after}
use Rattle.cube_run.specs.SessionSteps.{SessionStep, last_state, step_at, steps_of}
use Rattle.cube_values.specs.declared.operation.Operation.{Operation}
use Rattle.played_scripts.proofs.Steps.{last_state_more, steps_more}
use Rattle.posted_pasts.proofs.ChangesStand.{IsChangeAt}
use Rattle.posted_pasts.proofs.StepOperations.{at-both, at-other, at-own}
use Rattle.posted_pasts.specs.DoneChanges.{HasNoOperation}
use Rattle.posted_pasts.specs.PostsAdded.{AddsAtEpoch, AddsNoOperation, AddsOperations, GoesOnWith, LearnsThat}
use Rattle.posted_pasts.specs.PostsBehind.{InEachRun, IsRunWithCalls, PostsStandBehind, is_abort_of}

neither : (a b : Bool) → (a || b) ≡ false → (a ≡ false) × (b ≡ false)
neither true b is = absurd (true≢false is)
neither false b is = (refl, is)

-- Posts and operations may be replaced by equal ones.
stand-as : (d : Decl) (lists : List (List (List ℕ))) (posts others : List CubeOperation) (done more : List Operation)
    → others ≡ posts → more ≡ done → PostsStandFor d lists posts done → PostsStandFor d lists others more
stand-as d lists posts others done more p m stand = coe 1 0 (i. PostsStandFor d lists (p i) (m i)) stand

module _ {S : Type 0} (fits : Opening → ℕ → ShardCall → Type 0) (stands : Opening → ℕ → ℕ → S → ShardView → Type 0)
    (says : CoreJob → ShardAnswer → JobOutcome → Type 0) (cells : List (CoreCell S)) (caller session : ℕ)
    (besides : RunClaim) where
  abbrev From : CorePast → Opening → RunScripts → List CoreEvent → Type 0
  From past o given events = IsRunFrom fits stands says cells caller session past o given events

  abbrev WithCalls : CorePast → List CoreEntry → Opening → RunScripts → List CoreEvent → List CoreEvent → Type 0
  WithCalls past own o given events es =
      IsRunWithCalls fits stands says cells caller session besides past own o given events es

  abbrev Behind : CorePast → List CoreEntry → SessionState → Type 0
  Behind past own state = PostsStandBehind fits stands says cells caller session besides past own state

  abbrev Learns : (ℕ → Opening → List ClientCall → List ClientCall → Type 0) → List CoreEntry → List CoreEntry → Type 0
  Learns Adds own now = LearnsThat fits stands says Adds cells caller session own now

  pub nothing-posted : Behind nothing_behind [] fresh_session
  nothing-posted = record {
    becomes = λ o given events from also. refl;
    posts = λ o given events es r epoch cube d alive is.
        coe 0 1 (i. PostsStandFor d (lists_at (record_of o given events).names cube)
        (operations_by_calls o session cube (calls_of session (r.calls i)) epoch) []) no_posts;
  }

  -- A run with more calls is one with those before them.
  fewer-calls : (past : CorePast) (own now : List CoreEntry) (o : Opening) (given : RunScripts)
      (events es before : List CoreEvent) → IsPrefix own now → WithCalls past now o given events es
      → AreEventsOf (IsEntryEvent fits stands says o) own before → WithCalls past own o given events before
  fewer-calls past own now o given events es before more r are = record {
    from = r.from;
    also = r.also;
    log = r.log;
    later =
        earlier-run fits stands says cells o caller own more.0 r.log events
        (subst (λ (l : List CoreEntry). IsLaterRun fits stands says cells o caller l r.log events) (sym more.1) r.later);
    calls = are;
  }

  pub with-calls : (past : CorePast) (own now : List CoreEntry) (state : SessionState) → IsPrefix own now
      → Learns AddsNoOperation own now → Behind past own state → Behind past now state
  with-calls past own now state more learns b = record {
    becomes = b.becomes;
    posts = λ o given events es r epoch cube d alive is.
        let g : GoesOnWith fits stands says AddsNoOperation o session own es = learns o r.log events es r.later r.calls in
        let run = record_of o given events in
        let done = operations_at epoch (session_operations run session past.sentences) in
        stand-as d (lists_at run.names cube) (operations_by_calls o session cube (calls_of session g.before) epoch)
        (operations_by_calls o session cube (calls_of session es) epoch) done done (g.adds cube epoch) refl
        (b.posts o given events g.before (fewer-calls past own now o given events es g.before more r g.events) epoch cube d
        alive is);
  }

  module _ (before after : CorePast) (state : SessionState) (sentence : Sentence) (added : List JournalEntry)
      (turn : IsInTurn before) (m : IsOneMore before after sentence added) where
    abbrev step : SessionStep
    step = last_step session after state sentence added

    abbrev Leaves : Opening → RunScripts → List CoreEvent → Type 0
    Leaves o given events =
        last_state fresh_session (steps_of (record_of o given events) session before.sentences) ≡ state

    earlier : (o : Opening) (given : RunScripts) (events : List CoreEvent) → From after o given events
        → From before o given events
    earlier o given events from =
        run-before fits stands says cells caller session before after sentence added o given events m from

    steps-after : (o : Opening) (given : RunScripts) (events : List CoreEvent) → From after o given events
        → Leaves o given events
        → steps_of (record_of o given events) session after.sentences
        ≡ steps_of (record_of o given events) session before.sentences ++ step ∷ []
    steps-after o given events from was =
        let run = record_of o given events in
        let front = steps_of run session before.sentences in
        let at : 1 + last_number before ≡ last_number before + 1 = omega arith in
        ap (steps_of run session) m.sentences
        ∙ steps_more run session 1 fresh_session before.sentences sentence
        ∙ (λ i. front ++ step_at run session (at i) (was i) sentence ∷ [])
        ∙ ap (λ (last : SessionStep). front ++ last ∷ [])
        (same-step fits stands says cells caller session before after state sentence added o given events turn m from)

    state-after : (o : Opening) (given : RunScripts) (events : List CoreEvent) → From after o given events
        → Leaves o given events
        → last_state fresh_session (steps_of (record_of o given events) session after.sentences)
        ≡ session_after state sentence added
    state-after o given events from was =
        ap (last_state fresh_session) (steps-after o given events from was)
        ∙ last_state_more fresh_session (steps_of (record_of o given events) session before.sentences) step

    operations-after : (o : Opening) (given : RunScripts) (events : List CoreEvent) (made : Option DoneOperation)
        → From after o given events → Leaves o given events
        → operation_done (catalog_of (record_of o given events)) step ≡ made
        → session_operations (record_of o given events) session after.sentences
        ≡ session_operations (record_of o given events) session before.sentences ++ cons_option made []
    operations-after o given events made from was is =
        let run = record_of o given events in
        let front = steps_of run session before.sentences in
        ap (filter_map (operation_done (catalog_of run))) (steps-after o given events from was)
        ∙ filter_map-append (operation_done (catalog_of run)) front (step ∷ [])
        ∙ (λ i. session_operations run session before.sentences ++ cons_option (is i) [])

    alive-both : (epoch : ℕ) → list_any (is_abort_of epoch) after.entries ≡ false
        → (list_any (is_abort_of epoch) before.entries ≡ false) × (list_any (is_abort_of epoch) added ≡ false)
    alive-both epoch alive =
        neither (list_any (is_abort_of epoch) before.entries) (list_any (is_abort_of epoch) added)
        (sym (list_any-append (is_abort_of epoch) before.entries added)
        ∙ sym (ap (list_any (is_abort_of epoch)) m.entries)
        ∙ alive)

    run-as-before : (own : List CoreEntry) (o : Opening) (given : RunScripts) (events es : List CoreEvent)
        → WithCalls after own o given events es → WithCalls before own o given events es
    run-as-before own o given events es r = record {
      from = earlier o given events r.from;
      also = r.also;
      log = r.log;
      later = r.later;
      calls = r.calls;
    }

    -- The operations of a statement that does nothing to rows.
    same-done : (o : Opening) (given : RunScripts) (events : List CoreEvent) → From after o given events
        → Leaves o given events → HasNoOperation (record_of o given events) step
        → session_operations (record_of o given events) session after.sentences
        ≡ session_operations (record_of o given events) session before.sentences
    same-done o given events from was none =
        operations-after o given events None from was none
        ∙ append-nil (session_operations (record_of o given events) session before.sentences)

    pub with-statement : (own : List CoreEntry)
        → InEachRun fits stands says cells caller session besides after (λ run. HasNoOperation run step)
        → Behind before own state
        → Behind after own (session_after state sentence added)
    with-statement own none b = record {
      becomes = λ o given events from also.
          state-after o given events from (b.becomes o given events (earlier o given events from) also);
      posts = λ o given events es r epoch cube d alive is.
          let run = record_of o given events in
          let was = b.becomes o given events (earlier o given events r.from) r.also in
          let posts = operations_by_calls o session cube (calls_of session es) epoch in
          stand-as d (lists_at run.names cube) posts posts
          (operations_at epoch (session_operations run session before.sentences))
          (operations_at epoch (session_operations run session after.sentences)) refl
          (ap (operations_at epoch) (same-done o given events r.from was (none o given events r.from r.also)))
          (b.posts o given events es (run-as-before own o given events es r) epoch cube d (alive-both epoch alive).0 is);
    }

    pub with-failure : (epoch : ℕ) (own now : List CoreEntry)
        → InEachRun fits stands says cells caller session besides after (λ run. HasNoOperation run step)
        → IsPrefix own now
        → Learns (AddsAtEpoch epoch) own now → list_any (is_abort_of epoch) added ≡ true → Behind before own state
        → Behind after now (session_after state sentence added)
    with-failure epoch own now none more learns gone b = record {
      becomes = λ o given events from also.
          state-after o given events from (b.becomes o given events (earlier o given events from) also);
      posts = λ o given events es r other cube d alive is.
          let run = record_of o given events in
          let was = b.becomes o given events (earlier o given events r.from) r.also in
          let g : GoesOnWith fits stands says (AddsAtEpoch epoch) o session own es =
          learns o r.log events es r.later r.calls
          in
          let both = alive-both other alive in
          let apart : other ≢ epoch =
          (λ same. true≢false (sym gone ∙ ap (λ (e : ℕ). list_any (is_abort_of e) added) (sym same) ∙ both.1))
          in
          stand-as d (lists_at run.names cube) (operations_by_calls o session cube (calls_of session g.before) other)
          (operations_by_calls o session cube (calls_of session es) other)
          (operations_at other (session_operations run session before.sentences))
          (operations_at other (session_operations run session after.sentences)) (g.adds cube other apart)
          (ap (operations_at other) (same-done o given events r.from was (none o given events r.from r.also)))
          (b.posts o given events g.before
          (fewer-calls before own now o given events es g.before more (run-as-before now o given events es r) g.events)
          other cube d both.0 is);
    }

    pub with-change : (cube epoch : ℕ) (posted : List CubeOperation) (own now : List CoreEntry) → IsPrefix own now
        → Learns (AddsOperations cube epoch posted) own now
        → ((o : Opening) (given : RunScripts) (events es : List CoreEvent) → WithCalls after now o given events es
        → IsChangeAt (record_of o given events) step cube epoch posted)
        → Behind before own state → Behind after now (session_after state sentence added)
    with-change cube epoch posted own now more learns change b = record {
      becomes = λ o given events from also.
          state-after o given events from (b.becomes o given events (earlier o given events from) also);
      posts = λ o given events es r at place d alive is.
          let run = record_of o given events in
          let was = b.becomes o given events (earlier o given events r.from) r.also in
          let g : GoesOnWith fits stands says (AddsOperations cube epoch posted) o session own es =
          learns o r.log events es r.later r.calls
          in
          let c = change o given events es r in
          let made : DoneOperation = record { number = step.number; epoch = epoch; operation = c.operation } in
          let behind = session_operations run session before.sentences in
          let whole : session_operations run session after.sentences ≡ behind ++ made ∷ [] =
          operations-after o given events (Some made) r.from was c.done
          in
          let both : operations_at at (session_operations run session after.sentences)
          ≡ operations_at at behind ++ operations_at at (made ∷ []) =
          ap (operations_at at) whole ∙ at-both at behind (made ∷ [])
          in
          let posts = operations_by_calls o session place (calls_of session g.before) at in
          let now_posts = operations_by_calls o session place (calls_of session es) at in
          let lists = lists_at run.names place in
          let done = operations_at at behind in
          let stood : PostsStandFor d lists posts done =
          b.posts o given events g.before
          (fewer-calls before own now o given events es g.before more (run-as-before now o given events es r) g.events)
          at place d (alive-both at alive).0 is
          in
          elim (eqb_tells at epoch) [
            | inr other ↦
                stand-as d lists posts now_posts done (operations_at at (session_operations run session after.sentences))
                (g.adds.elsewhere place at (inr other.1))
                (both
                ∙ ap (λ (ops : List Operation). done ++ ops) (at-other at made (λ same. other.1 (sym same)))
                ∙ append-nil done)
                stood
            | inl same ↦
                let grown : operations_at at (session_operations run session after.sentences) ≡ done ++ c.operation ∷ [] =
                both ∙ ap (λ (ops : List Operation). done ++ ops) (at-own at made (sym same.1))
                in
                elim (eqb_tells place cube) [
                  | inr away ↦
                      stand-as d lists posts now_posts (done ++ c.operation ∷ [])
                      (operations_at at (session_operations run session after.sentences))
                      (g.adds.elsewhere place at (inl away.1)) grown
                      (c.other place d away.1 is posts done stood)
                  | inl here ↦
                      let decl : d ≡ c.decl =
                      same_Some d c.decl (sym is ∙ ap (slice_get (catalog_of run).cubes) here.1 ∙ c.cube_is)
                      in
                      stand-as d lists (posted ++ posts) now_posts (done ++ c.operation ∷ [])
                      (operations_at at (session_operations run session after.sentences))
                      (coe 1 0 (i. operations_by_calls o session (here.1 i) (calls_of session es) (same.1 i)
                      ≡ posted ++ operations_by_calls o session (here.1 i) (calls_of session g.before) (same.1 i))
                      g.adds.here)
                      grown
                      (coe 1 0 (i. PostsStandFor (decl i) (lists_at run.names (here.1 i)) (posted ++ posts)
                      (done ++ c.operation ∷ []))
                      (c.here posts done
                      (coe 0 1 (i. PostsStandFor (decl i) (lists_at run.names (here.1 i)) posts done) stood)))
                ]
          ];
    }
