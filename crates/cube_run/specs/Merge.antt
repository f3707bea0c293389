-- Which journals are merges of scripts: each session's entries are those of its statements, each once, in order, and
-- those of its script's end.
-- Source: this project's own.
use Rattle.std.specs.Prelude.{◌≡◌, ℕ, ◌+◌, ◌%◌, Bool, true, false, ◌&&◌, ◌||◌, ◌==◌, zero, suc, is_none, IsSome, List, [], ◌++◌, length, Option, Some, None}
use Rattle.std.specs.List.{list_any, list_all, flat_map, enumerate_from, AllByRecursion}
use Rattle.std.specs.Option.{option_and_then}
use Rattle.cube_journal.specs.declared.journal_entry.JournalEntry.{JournalEntry}
use Rattle.cube_journal.specs.declared.refusal.Refusal.TheVariants as refusal
use Rattle.cube_journal.specs.Entries.{session_of}
use Rattle.cube_run.specs.StepOutcomes.{MayEnd}
use Rattle.cube_run.specs.RunRecords.{RunRecord, Sentence, cubes_at, catalog_of, cube_called, cube_needed, statement_said}
use Rattle.cube_run.specs.SessionStates.{fresh_session, is_commit}
use Rattle.cube_run.specs.SessionSteps.{SessionStep, belongs_to, session_part, steps_of, journal_before, last_state}
use Rattle.cube_run.specs.StatementEntries.{Outcome, Done, RefusedWith, Leaves, LeavesRound, entries_to_commit, entries_after_commit, script_end}

-- A session makes a round after a statement that commits, where its commits by then are a multiple of round_every.
abbrev pub round_is_due : ℕ → SessionStep → Bool
round_is_due zero step = false
round_is_due (suc n) step = list_any is_commit step.entries && ((step.state.commits + 1) % suc n == 0)

-- The entries after a commit are those of a round, or none.
abbrev pub RoundFollows : ℕ → ℕ → Bool → List JournalEntry → Type 0
RoundFollows i j true entries = LeavesRound i j entries
RoundFollows i j false entries = entries ≡ []

-- A statement that needs a cube has not looked for it where it was refused before that, or for want of memory.
abbrev pub looked_for_cube : Outcome → Bool
looked_for_cube Done = true
looked_for_cube (RefusedWith (refusal.Syntax fault)) = false
looked_for_cube (RefusedWith (refusal.UnknownCube name)) = false
looked_for_cube (RefusedWith refusal.TransactionAborted) = false
looked_for_cube (RefusedWith refusal.NoMemory) = false
looked_for_cube (RefusedWith refusal.WatchOpen) = false
looked_for_cube (RefusedWith r) = true

-- The cube of this name, if a statement needs one, stands there before the statement's first entry; where that has no
-- entry, before its session's next one.
abbrev pub HasCube : RunRecord → SessionStep → Option (List ℕ) → Type 0
HasCube run step None = Unit {0}
HasCube run step (Some name) =
    IsSome (cube_called (cubes_at run (journal_before step.session step.number run.journal)) name)

-- A statement may end so, and its entries are those that it then leaves.
pub record IsOutcome (run : RunRecord) (step : SessionStep) (outcome : Outcome) : Type 0 where
  pub ends : MayEnd (catalog_of run) step outcome
  pub leaves : Leaves step.session step.number step.state.mode step.state.watch step.sentence outcome
      (entries_to_commit step.entries)
  pub round : RoundFollows step.session step.number (round_is_due run.round_every step)
      (entries_after_commit step.entries)
  pub cube : looked_for_cube outcome ≡ true
      → HasCube run step (option_and_then cube_needed (statement_said step.sentence))

abbrev pub HasOutcome : RunRecord → SessionStep → Type 0
HasOutcome run step = (outcome : Outcome) × IsOutcome run step outcome

-- The entries of the end of a session, after its steps.
abbrev pub end_of : ℕ → List Sentence → List SessionStep → List JournalEntry
end_of session script steps =
    let last = last_state fresh_session steps in script_end session (length script + 1) last.mode last.watch

-- A session's part of the journal is the entries of its statements, in order, and then those of its end.
pub record SessionMerges (run : RunRecord) (session : ℕ) (script : List Sentence) : Type 0 where
  pub statements : AllByRecursion (HasOutcome run) (steps_of run session script)
  pub whole : session_part session run.journal
      ≡ flat_map (λ step. step.entries) (steps_of run session script)
      ++ end_of session script (steps_of run session script)

-- An entry is the flusher's, or one of a session of the run.
abbrev pub has_owner : RunRecord → JournalEntry → Bool
has_owner run e = is_none (session_of e) || list_any (λ p. belongs_to p.0 e) (enumerate_from 1 run.scripts)

-- The journal is a merge of the scripts.
pub record IsMerge (run : RunRecord) : Type 0 where
  pub sessions : AllByRecursion (λ p. SessionMerges run p.0 p.1) (enumerate_from 1 run.scripts)
  pub others : list_all (has_owner run) run.journal ≡ true
