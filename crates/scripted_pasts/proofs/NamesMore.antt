-- Names that stand behind a session go on standing with calls and statements more.
use Rattle.std.proofs.Common.{◌≡◌, ◌∙◌, inl, inr, ℕ, ◌+◌, Contains, List, [], ◌∷◌, ◌++◌, sym, ap, subst, arith}
use Rattle.std.specs.List.{AllByRecursion}
use Rattle.std.proofs.lemmas.List.Elements.{All-contains, All-from_recursion, Contains-append_cases}
use mathlib.Core.List.{IsPrefix}
use Rattle.core_events.specs.Clients.{calls_of}
use Rattle.core_events.specs.Events.{Opening, Encode, ClientCall, OnNames, CoreEvent}
use Rattle.core_events.specs.Jobs.{CoreJob, JobOutcome}
use Rattle.core_events.specs.ShardView.{ShardView}
use Rattle.core_program.proofs.KnownCalls.{earlier-run}
use Rattle.core_program.specs.CoreFits.{CoreEntry}
use Rattle.core_program.specs.Knowing.{IsLaterRun}
use Rattle.core_records.specs.CoreRecords.{RunScripts, record_of}
use Rattle.core_states.proofs.LongerPasts.{run-before, same-step}
use Rattle.core_states.specs.CorePasts.{CorePast, IsInTurn, IsOneMore, last_number, last_step, nothing_behind}
use Rattle.core_states.specs.LeftBehind.{AddsCalls, AsksForNone, GoOnByCalls}
use Rattle.core_states.specs.RunsFrom.{IsRunFrom, RunClaim}
use Rattle.cube_core.specs.BoardCells.{IsEntryEvent}
use Rattle.cube_core.specs.Links.{AreEventsOf}
use Rattle.cube_core.specs.declared.cell.CoreCell.{CoreCell}
use Rattle.cube_core.specs.declared.shard.ShardAnswer.{ShardAnswer}
use Rattle.cube_core.specs.declared.shard.ShardCall.{ShardCall}
use Rattle.cube_journal.specs.declared.journal_entry.JournalEntry.{JournalEntry}
use Rattle.cube_run.specs.RunRecords.{Sentence}
use Rattle.cube_run.specs.SessionStates.{SessionState, fresh_session}
use Rattle.cube_run.specs.SessionSteps.{SessionStep, last_state, step_at, steps_of}
use Rattle.scripted_pasts.specs.AskedTexts.{AsksForText, IsAskedForBy}
use Rattle.scripted_pasts.specs.NamesBehind.{AskForMoreOffered, AsksMoreOffered, NamesStandBehind}
use Rattle.scripted_pasts.specs.NamesStand.{IsNamedStep, NamesStand}
use Rattle.played_scripts.proofs.Steps.{steps_more}
use Rattle.posted_pasts.specs.PostsBehind.{InEachRun, IsRunWithCalls}

-- ---- calls that ask for none

asks-none : (cube dim : ℕ) (text : List ℕ) (call : ClientCall) → AsksForNone call → AsksForText cube dim text call → ⊥
asks-none cube dim text (OnNames (Encode c d name code)) none asks = none
asks-none cube dim text call none asks = asks

pub asked-before : (cube dim : ℕ) (text : List ℕ) (added past : List ClientCall) → AllByRecursion AsksForNone added
    → IsAskedForBy (added ++ past) cube dim text → IsAskedForBy past cube dim text
asked-before cube dim text added past none h =
    elim (Contains-append_cases added past h.call h.among) [
      | inl new ↦
          absurd (asks-none cube dim text h.call
          (All-contains AsksForNone added h.call (All-from_recursion AsksForNone added none) new) h.asks)
      | inr old ↦ record { call = h.call; among = old; asks = h.asks }
    ]

none-asked : (cube dim : ℕ) (text : List ℕ) → IsAskedForBy [] cube dim text → ⊥
none-asked cube dim text h = nothing h.call h.among
  where
    nothing : (call : ClientCall) → Contains [] call → ⊥
    nothing call (k, low, at) = omega (arith, low)

one-more : {X : Type 0} (P : X → Type 0) (xs : List X) (x : X) → AllByRecursion P xs → P x
    → AllByRecursion P (xs ++ x ∷ [])
one-more P [] x h p = (p, tt)
one-more P (y ∷ xs) x h p = (h.0, one-more P xs x h.1 p)

module _ {S : Type 0} (fits : Opening → ℕ → ShardCall → Type 0) (stands : Opening → ℕ → ℕ → S → ShardView → Type 0)
    (says : CoreJob → ShardAnswer → JobOutcome → Type 0) (cells : List (CoreCell S)) (caller session : ℕ)
    (besides : RunClaim) where
  abbrev From : CorePast → Opening → RunScripts → List CoreEvent → Type 0
  From past o given events = IsRunFrom fits stands says cells caller session past o given events

  abbrev WithCalls : CorePast → List CoreEntry → Opening → RunScripts → List CoreEvent → List CoreEvent → Type 0
  WithCalls past own o given events es =
      IsRunWithCalls fits stands says cells caller session besides past own o given events es

  abbrev Behind : CorePast → List CoreEntry → Type 0
  Behind past own = NamesStandBehind fits stands says cells caller session besides past own

  pub nothing-named : Behind nothing_behind []
  nothing-named o given events es r = record {
    offered = λ cube place d dim text has asked.
        absurd (none-asked cube place text
        (coe 1 0 (i. IsAskedForBy (calls_of session (r.calls i)) cube place text) asked));
    steps = tt;
  }

  -- A run with more calls is one with those before them.
  fewer-calls : (past : CorePast) (own now : List CoreEntry) (o : Opening) (given : RunScripts)
      (events es before : List CoreEvent) → IsPrefix own now → WithCalls past now o given events es
      → AreEventsOf (IsEntryEvent fits stands says o) own before → WithCalls past own o given events before
  fewer-calls past own now o given events es before more r are = record {
    from = r.from;
    also = r.also;
    log = r.log;
    later =
        earlier-run fits stands says cells o caller own more.0 r.log events
        (subst (λ (l : List CoreEntry). IsLaterRun fits stands says cells o caller l r.log events) (sym more.1)
        r.later);
    calls = are;
  }

  -- Calls that ask for no text ask for none that is not offered.
  pub none-more : (past : CorePast) (own now : List CoreEntry)
      → GoOnByCalls fits stands says cells caller session AsksForNone own now
      → AskForMoreOffered fits stands says cells caller session besides past own now
  none-more past own now goes o given events es r =
      let a : AddsCalls fits stands says AsksForNone o session own es = goes o r.log events es r.later r.calls in
      record {
        before = a.before;
        events = a.events;
        offered = λ cube place d dim text has asked.
            inl (asked-before cube place text a.added (calls_of session a.before) a.each
            (subst (λ (calls : List ClientCall). IsAskedForBy calls cube place text) a.calls asked));
      }

  pub with-calls : (past : CorePast) (own now : List CoreEntry) → IsPrefix own now
      → GoOnByCalls fits stands says cells caller session AsksForNone own now → Behind past own → Behind past now
  with-calls past own now more goes b o given events es r =
      let a : AddsCalls fits stands says AsksForNone o session own es = goes o r.log events es r.later r.calls in
      let was : NamesStand (record_of o given events) session past.sentences (calls_of session a.before) =
      b o given events a.before (fewer-calls past own now o given events es a.before more r a.events)
      in
      record {
        offered = λ cube place d dim text has asked.
            was.offered cube place d dim text has
            (asked-before cube place text a.added (calls_of session a.before) a.each
            (subst (λ (calls : List ClientCall). IsAskedForBy calls cube place text) a.calls asked));
        steps = was.steps;
      }

  module _ (before after : CorePast) (state : SessionState) (sentence : Sentence) (added : List JournalEntry)
      (turn : IsInTurn before) (m : IsOneMore before after sentence added) where
    abbrev step : SessionStep
    step = last_step session after state sentence added

    earlier : (o : Opening) (given : RunScripts) (events : List CoreEvent) → From after o given events
        → From before o given events
    earlier o given events from =
        run-before fits stands says cells caller session before after sentence added o given events m from

    steps-after : (o : Opening) (given : RunScripts) (events : List CoreEvent) → From after o given events
        → last_state fresh_session (steps_of (record_of o given events) session before.sentences) ≡ state
        → steps_of (record_of o given events) session after.sentences
        ≡ steps_of (record_of o given events) session before.sentences ++ step ∷ []
    steps-after o given events from was =
        let run = record_of o given events in
        let front = steps_of run session before.sentences in
        let at : 1 + last_number before ≡ last_number before + 1 = omega arith in
        ap (steps_of run session) m.sentences
        ∙ steps_more run session 1 fresh_session before.sentences sentence
        ∙ (λ i. front ++ step_at run session (at i) (was i) sentence ∷ [])
        ∙ ap (λ (last : SessionStep). front ++ last ∷ [])
        (same-step fits stands says cells caller session before after state sentence added o given events turn m from)

    run-as-before : (own : List CoreEntry) (o : Opening) (given : RunScripts) (events es : List CoreEvent)
        → WithCalls after own o given events es → WithCalls before own o given events es
    run-as-before own o given events es r = record {
      from = earlier o given events r.from;
      also = r.also;
      log = r.log;
      later = r.later;
      calls = r.calls;
    }

    pub with-statement : (own now : List CoreEntry) → IsPrefix own now
        → InEachRun fits stands says cells caller session besides before
        (λ run. last_state fresh_session (steps_of run session before.sentences) ≡ state)
        → AskForMoreOffered fits stands says cells caller session besides after own now
        → InEachRun fits stands says cells caller session besides after (λ run. IsNamedStep run step)
        → Behind before own → Behind after now
    with-statement own now more becomes asks named b o given events es r =
        let run = record_of o given events in
        let g : AsksMoreOffered fits stands says run o session own es = asks o given events es r in
        let was : NamesStand run session before.sentences (calls_of session g.before) =
        b o given events g.before
        (fewer-calls before own now o given events es g.before more (run-as-before now o given events es r) g.events)
        in
        record {
          offered = λ cube place d dim text has asked.
              elim (g.offered cube place d dim text has asked) [
                | inl old ↦ was.offered cube place d dim text has old
                | inr new ↦ new
              ];
          steps =
              subst (AllByRecursion (IsNamedStep run))
              (sym (steps-after o given events r.from
              (becomes o given events (earlier o given events r.from) r.also)))
              (one-more (IsNamedStep run) (steps_of run session before.sentences) step was.steps
              (named o given events r.from r.also));
        }
