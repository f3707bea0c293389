-- The step of the statement that came last is one of the run.
use Rattle.std.proofs.Common.{◌≡◌, ◌∙◌, ℕ, zero, suc, ◌+◌, ◌-◌, ◌<◌, Contains, List, [], ◌∷◌, ◌++◌, length, Option, Some, slice_get, unwrap_or, refl, sym, ap, subst, arith, append_assoc}
use Rattle.std.specs.List.{enumerate_from, flat_map}
use Rattle.std.proofs.lemmas.List.Elements.{Contains-append_left, Contains-append_right}
use Rattle.std.proofs.lemmas.Option.{none-some, same_Some}
use Rattle.core_events.specs.Events.{Opening, IsSession, CoreEvent}
use Rattle.core_events.specs.Jobs.{CoreJob, JobOutcome}
use Rattle.core_events.specs.ShardView.{ShardView}
use Rattle.core_records.specs.CoreRecords.{RunScripts, record_of}
use Rattle.core_records.specs.ScriptedCalls.{script_given}
use Rattle.core_states.proofs.LongerPasts.{same-step}
use Rattle.core_states.specs.CorePasts.{CorePast, IsInTurn, IsOneMore, last_number, last_step}
use Rattle.core_states.specs.RunsFrom.{IsRunFrom}
use Rattle.cube_core.specs.declared.cell.CoreCell.{CoreCell}
use Rattle.cube_core.specs.declared.shard.ShardAnswer.{ShardAnswer}
use Rattle.cube_core.specs.declared.shard.ShardCall.{ShardCall}
use Rattle.cube_journal.specs.declared.journal_entry.JournalEntry.{JournalEntry}
use Rattle.cube_run.specs.RunRecords.{RunRecord, Sentence}
use Rattle.cube_run.specs.SessionStates.{SessionState, fresh_session}
use Rattle.cube_run.specs.SessionSteps.{SessionStep, all_steps, last_state, state_after_step, step_at, steps_from, steps_of}

among-steps : (run : RunRecord) (session n : ℕ) (state : SessionState) (front : List Sentence) (s : Sentence)
    (back : List Sentence)
    → Contains (steps_from run session n state (front ++ s ∷ back))
    (step_at run session (n + length front) (last_state state (steps_from run session n state front)) s)
among-steps run session n state [] s back =
    let steps = steps_from run session n state (s ∷ back) in
    subst (λ (k : ℕ). Contains steps (step_at run session k state s)) (omega arith) (0, omega arith, refl)
among-steps run session n state (first ∷ front) s back =
    let step = step_at run session n state first in
    let next = state_after_step step in
    let rest = steps_from run session (n + 1) next (front ++ s ∷ back) in
    let count : n + 1 + length front ≡ n + length (first ∷ front) = omega arith in
    Contains-append_right (step ∷ []) rest
    (step_at run session (n + length (first ∷ front)) (last_state next (steps_from run session (n + 1) next front)) s)
    (subst (λ (k : ℕ). Contains rest
    (step_at run session k (last_state next (steps_from run session (n + 1) next front)) s)) count
    (among-steps run session (n + 1) next front s back))

among-all : (run : RunRecord) (first k : ℕ) (scripts : List (List Sentence)) (script : List Sentence)
    (step : SessionStep) → slice_get scripts k ≡ Some script → Contains (steps_of run (first + k) script) step
    → Contains (flat_map (λ p. steps_of run p.0 p.1) (enumerate_from first scripts)) step
among-all run first k [] script step is among = absurd (none-some script is)
among-all run first zero (x ∷ scripts) script step is among =
    let here : first + 0 ≡ first = omega arith in
    Contains-append_left (steps_of run first x)
    (flat_map (λ p. steps_of run p.0 p.1) (enumerate_from (first + 1) scripts))
    step
    (coe 0 1 (i. Contains (steps_of run (here i) (sym (same_Some x script is) i)) step) among)
among-all run first (suc k) (x ∷ scripts) script step is among =
    let there : first + suc k ≡ first + 1 + k = omega arith in
    Contains-append_right (steps_of run first x)
    (flat_map (λ p. steps_of run p.0 p.1) (enumerate_from (first + 1) scripts)) step
    (among-all run (first + 1) k scripts script step is
    (subst (λ (n : ℕ). Contains (steps_of run n script) step) there among))

some-within : (xs : List (List Sentence)) (k : ℕ) → k < length xs
    → slice_get xs k ≡ Some (unwrap_or (slice_get xs k) [])
some-within [] k low = absurd (omega (arith, low))
some-within (x ∷ xs) zero low = refl
some-within (x ∷ xs) (suc k) low = some-within xs k (omega (arith, low))

module _ {S : Type 0} (fits : Opening → ℕ → ShardCall → Type 0) (stands : Opening → ℕ → ℕ → S → ShardView → Type 0)
    (says : CoreJob → ShardAnswer → JobOutcome → Type 0) (cells : List (CoreCell S)) (caller session : ℕ)
    (before after : CorePast) (state : SessionState) (sentence : Sentence) (added : List JournalEntry)
    (turn : IsInTurn before) (m : IsOneMore before after sentence added) (o : Opening) (given : RunScripts)
    (events : List CoreEvent) where
  pub last-among : IsSession o session → IsRunFrom fits stands says cells caller session after o given events
      → last_state fresh_session (steps_of (record_of o given events) session before.sentences) ≡ state
      → Contains (all_steps (record_of o given events)) (last_step session after state sentence added)
  last-among is from was =
      let run = record_of o given events in
      let low = is.first in
      let high = is.last in
      let all = from.follow.each in
      let count : 1 + (session - 1) ≡ session = omega (arith, low) in
      let script : script_given given session ≡ before.sentences ++ sentence ∷ from.rest =
      from.script
      ∙ ap (λ (ss : List Sentence). ss ++ from.rest) m.sentences
      ∙ append_assoc before.sentences (sentence ∷ []) from.rest
      in
      let at : 1 + last_number before ≡ last_number before + 1 = omega arith in
      let step : step_at run session (1 + last_number before)
      (last_state fresh_session (steps_of run session before.sentences)) sentence
      ≡ last_step session after state sentence added =
      (λ i. step_at run session (at i) (was i) sentence)
      ∙ same-step fits stands says cells caller session before after state sentence added o given events turn m from
      in
      among-all run 1 (session - 1) given.scripts (script_given given session)
      (last_step session after state sentence added)
      (some-within given.scripts (session - 1) (omega (arith, low, high, all)))
      (coe 1 0 (i. Contains (steps_of run (count i) (script i)) (sym step i))
      (among-steps run session 1 fresh_session before.sentences sentence from.rest))
