-- What was done of a session's script, judged by every run that may go on from there.
-- Source: this project's own. A promise of all runs that may follow holds at once and to the end, and a reply may speak
-- of the end, as prophecy variables do (Abadi and Lamport, 1991).
use Rattle.std.specs.Prelude.{◌≡◌, ℕ, ◌-◌, List, length, take, Some, slice_get}
use Rattle.std.specs.List.{AllZip}
use Rattle.cube_journal.specs.declared.journal_entry.JournalEntry.{JournalEntry}
use Rattle.cube_journal.specs.declared.reply.Reply.{Reply}
use Rattle.cube_run.specs.RunRecords.{RunRecord, Sentence, script_of}
use Rattle.cube_run.specs.RunText.{IsReply}
use Rattle.cube_run.specs.SessionStates.{SessionState, fresh_session, session_after}
use Rattle.cube_run.specs.SessionSteps.{entries_of, last_state, step_at, steps_of}

-- A session does a statement, and what it has behind it grows from one to the other. Each run that goes on from there
-- has this statement at its number in the session's script and these entries of it in the journal, and answers it so.
pub record IsExecuted {Past : Type 0} (goes_on : Past → RunRecord → Type 0) (session number : ℕ)
    (state : SessionState) (sentence : Sentence) (before after : Past) (said : Reply) (next : SessionState)
    : Type 0 where
  pub entries : List JournalEntry
  pub earlier : (run : RunRecord) → goes_on after run → goes_on before run
  pub stands : (run : RunRecord) → goes_on after run → slice_get (script_of run session) (number - 1) ≡ Some sentence
  pub leaves : (run : RunRecord) → goes_on after run → entries_of session number run.journal ≡ entries
  pub becomes : next ≡ session_after state sentence entries
  pub answers : (run : RunRecord) → goes_on after run → IsReply run (step_at run session number state sentence) said

-- The first statements of a session's script are done. Each run that goes on from there has them at the beginning of
-- that script and answers them so, and they leave the session in this state.
pub record IsPlayed {Past : Type 0} (goes_on : Past → RunRecord → Type 0) (session : ℕ) (script : List Sentence)
    (past : Past) (replies : List Reply) (state : SessionState) : Type 0 where
  pub begins : (run : RunRecord) → goes_on past run → take (length script) (script_of run session) ≡ script
  pub answers : (run : RunRecord) → goes_on past run → AllZip (IsReply run) (steps_of run session script) replies
  pub becomes : (run : RunRecord) → goes_on past run → last_state fresh_session (steps_of run session script) ≡ state
