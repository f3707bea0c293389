-- A session whose script has ended holds nothing.
use Rattle.std.proofs.Common.{◌≡◌, ◌∙◌, ℕ, zero, suc, ◌+◌, ◌-◌, ◌<◌, ◌==◌, Bool, true, false, true≢false, ◌||◌, List, [], ◌∷◌, ◌++◌, length, Option, Some, None, if◌then◌else◌, refl, sym, ap, arith}
use Rattle.std.specs.List.{AllByRecursion, enumerate_from, flat_map, list_any}
use Rattle.std.proofs.lemmas.List.Sums.{fold-append}
use Rattle.cube_journal.specs.Counters.{JournalState, held_by, opening_state}
use Rattle.cube_journal.specs.declared.journal_entry.JournalEntry.{JournalEntry}
use Rattle.cube_journal.specs.declared.journal_entry.JournalEntry.TheVariants as entry
use Rattle.cube_run.specs.Merge.{HasOutcome, IsMerge, IsOutcome, RoundFollows, SessionMerges, round_is_due}
use Rattle.cube_run.specs.RunRecords.{RunRecord, Sentence}
use Rattle.cube_run.specs.SessionStates.{KeptWatch, Mode, Idle, Open, Aborted, SessionState, fresh_session, is_commit}
use Rattle.cube_run.specs.SessionSteps.{SessionStep, last_state, session_part, state_after_step, step_at, steps_from, steps_of}
use Rattle.cube_run.specs.StatementEntries.{Outcome, LeavesRound, round_done, round_lost, round_without_memory, entries_after_commit, entries_to_commit, script_end}
use Rattle.core_events.specs.Cells.{counters_of_run}
use Rattle.core_events.specs.Events.{Opening, CoreEvent}
use Rattle.core_events.specs.Runs.{IsCoreRun}
use Rattle.core_events.proofs.Agreement.{agree}
use Rattle.core_records.specs.CoreRecords.{RunScripts, record_of}
use Rattle.core_serial.specs.Journals.{journal_of}
use Rattle.core_serial.proofs.Entries.{run-counters}
use Rattle.last_rounds.specs.SavedEpochs.{SessionsHoldNothing}
use Rattle.ended_sessions.proofs.HeldNumbers.{IsState, held-by-entries, held-by-part, held_after_all, held_step, is_there, not-there}
use Rattle.ended_sessions.proofs.StepHolds.{After, step-holds}

-- ---- a commit, and the round behind it

whole-entries : (es : List JournalEntry) → entries_to_commit es ++ entries_after_commit es ≡ es
whole-entries [] = refl
whole-entries (entry.Committed i j epoch ∷ later) = refl
whole-entries (e ∷ later) = ap (λ (l : List JournalEntry). e ∷ l) (whole-entries later)

no-commit : (es : List JournalEntry) → list_any is_commit (entries_to_commit es) ≡ false → entries_after_commit es ≡ []
no-commit [] not = refl
no-commit (entry.Committed i j epoch ∷ later) not = absurd (true≢false not)
no-commit (e ∷ later) not = no-commit later not

round-entries : {i j : ℕ} {after : List JournalEntry} → LeavesRound i j after → (m : ℕ) (h : Bool)
    → held_after_all m h after ≡ h
round-entries (round_done epoch) m h = refl
round-entries round_without_memory m h = refl
round-entries round_lost m h = refl

round-quiet : (i j : ℕ) (due : Bool) (after : List JournalEntry) → RoundFollows i j due after → (m : ℕ) (h : Bool)
    → held_after_all m h after ≡ h
round-quiet i j true after round m h = round-entries round m h
round-quiet i j false after none m h = ap (held_after_all m h) none

-- ---- the steps

step-state : (run : RunRecord) (step : SessionStep) (outcome : Outcome) (holds : ℕ → Bool) → IsOutcome run step outcome
    → IsState step.session step.state.mode step.state.watch holds
    → After step.session step.state.mode step.state.watch step.sentence holds step.entries
step-state run step outcome holds x state =
    coe 0 1 (i. After step.session step.state.mode step.state.watch step.sentence holds (whole-entries step.entries i))
    (step-holds (entries_after_commit step.entries) holds x.leaves (no-commit step.entries)
    (round-quiet step.session step.number (round_is_due run.round_every step) (entries_after_commit step.entries)
    x.round) state)

abbrev entries_left : List SessionStep → List JournalEntry
entries_left steps = flat_map (λ step. step.entries) steps

steps-state : (run : RunRecord) (session number : ℕ) (state : SessionState) (script : List Sentence) (holds : ℕ → Bool)
    → AllByRecursion (HasOutcome run) (steps_from run session number state script)
    → IsState session state.mode state.watch holds
    → IsState session (last_state state (steps_from run session number state script)).mode
    (last_state state (steps_from run session number state script)).watch
    (λ m. held_after_all m (holds m) (entries_left (steps_from run session number state script)))
steps-state run session number state [] holds all is = is
steps-state run session number state (sentence ∷ script) holds all is =
    let step = step_at run session number state sentence in
    let outcome = all.0 in
    let next = step-state run step outcome.0 holds outcome.1 is in
    let after = λ (m : ℕ). held_after_all m (holds m) step.entries in
    let later = steps_from run session (number + 1) (state_after_step step) script in
    let rest = steps-state run session (number + 1) (state_after_step step) script after all.1 next in
    record {
      held = λ m. fold-append (held_step m) (holds m) step.entries (entries_left later) ∙ rest.held m;
      holder = rest.holder;
    }

-- ---- the end

closed : (k : Bool) → (if k then false else k) ≡ false
closed true = refl
closed false = refl

rolled : (b : Bool) → (if b then false else (b || false)) ≡ false
rolled true = refl
rolled false = refl

rolled-closed : (b k : Bool) → (if k then false else (if b then false else (b || k))) ≡ false
rolled-closed b true = refl
rolled-closed true false = refl
rolled-closed false false = refl

end-state : (i j m : ℕ) (mode : Mode) (watch : Option KeptWatch) (holds : ℕ → Bool) → IsState i mode watch holds
    → held_after_all m (holds m) (script_end i j mode watch) ≡ false
end-state i j m Idle None holds state = state.held m
end-state i j m Idle (Some kept) holds state =
    ap (λ (h : Bool). if kept.holder == m then false else h) (state.held m) ∙ closed (kept.holder == m)
end-state i j m (Open writer) None holds state =
    ap (λ (h : Bool). if i == m then false else h) (state.held m) ∙ rolled (i == m)
end-state i j m (Open writer) (Some kept) holds state =
    ap (λ (h : Bool). if kept.holder == m then false else (if i == m then false else h)) (state.held m)
    ∙ rolled-closed (i == m) (kept.holder == m)
end-state i j m (Aborted epoch) None holds state = state.held m
end-state i j m (Aborted epoch) (Some kept) holds state =
    ap (λ (h : Bool). if kept.holder == m then false else h) (state.held m) ∙ closed (kept.holder == m)

part-ends : (run : RunRecord) (session m : ℕ) (script : List Sentence) → SessionMerges run session script
    → held_after_all m false (session_part session run.journal) ≡ false
part-ends run session m script merges =
    let steps = steps_of run session script in
    let last = last_state fresh_session steps in
    let end = script_end session (length script + 1) last.mode last.watch in
    let begins : IsState session Idle None (λ n. false) = record { held = λ n. refl; holder = tt } in
    ap (held_after_all m false) merges.whole
    ∙ fold-append (held_step m) false (entries_left steps) end
    ∙ end-state session (length script + 1) m last.mode last.watch (λ n. held_after_all n false (entries_left steps))
    (steps-state run session 1 fresh_session script (λ n. false) merges.statements begins)

-- ---- a session of a run

pick : (Q : ℕ → List Sentence → Type 0) (n k : ℕ) (scripts : List (List Sentence)) → k < length scripts
    → AllByRecursion (λ p. Q p.0 p.1) (enumerate_from n scripts) → (script : List Sentence) × Q (n + k) script
pick Q n k [] low all = absurd (omega (arith, low))
pick Q n zero (script ∷ scripts) low all =
    let same : n + 0 ≡ n = omega arith in (script, coe 1 0 (i. Q (same i) script) all.0)
pick Q n (suc k) (script ∷ scripts) low all =
    let rest = pick Q (n + 1) k scripts (omega (arith, low)) all.1 in
    let same : n + 1 + k ≡ n + suc k = omega arith in
    (rest.0, coe 0 1 (i. Q (same i) rest.0) rest.1)

pub nothing-held : (o : Opening) (given : RunScripts) (es : List CoreEvent) → IsCoreRun o es
    → length given.scripts ≡ o.sessions → IsMerge (record_of o given es) → SessionsHoldNothing o es
nothing-held o given es run each merge session number is under =
    let record_here = record_of o given es in
    let first = is.first in
    let last = is.last in
    let place : 1 + (session - 1) ≡ session = omega (arith, first) in
    let found =
    pick (SessionMerges record_here) 1 (session - 1) given.scripts (omega (arith, first, last, each)) merge.sessions
    in
    let merges = coe 0 1 (i. SessionMerges record_here (place i) found.0) found.1 in
    let none : held_by (counters_of_run o es).snapshots number ≡ None =
    not-there (held_by (counters_of_run o es).snapshots number)
    (ap (λ (s : JournalState). is_there (held_by s.snapshots number)) (run-counters o es)
    ∙ held-by-entries number (opening_state o.safe) (journal_of o es)
    ∙ held-by-part session number false (journal_of o es) under
    ∙ part-ends record_here session number found.0 merges)
    in
    sym (agree o es run session is number under) ∙ none
