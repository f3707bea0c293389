-- The step of a statement that changes rows by a writer, in whichever mode its session is.
-- Source: AOSI (ICDE 2018), a transaction's begin and end.
use Rattle.std.specs.Prelude.{List}
use Rattle.cube_journal.specs.declared.journal_entry.AbortCause.{AbortCause}
use Rattle.cube_journal.specs.declared.journal_entry.JournalEntry.{JournalEntry}
use Rattle.cube_language.specs.declared.statement.Statement.{Statement}
use Rattle.cube_run.specs.Merge.{RoundFollows}
use Rattle.cube_run.specs.RunRecords.{RunRecord, Says}
use Rattle.cube_run.specs.SessionStates.{Mode}
use Rattle.cube_run.specs.SessionSteps.{SessionStep}
use Rattle.cube_values.specs.declared.snapshot.Snapshot.{Snapshot}
use Rattle.core_changes.specs.ChangeEnds.{Failed, Finished, IsWriterFor, change_entries, round_due_after}
use Rattle.session_replies.specs.StepParts.{IsStep}

-- The statement is done by the writer, and a round follows where one is due.
pub record IsDoneBy (run : RunRecord) (step : SessionStep) (s : Statement) (writer : Snapshot) : Type 0 where
  pub mode : Mode
  pub of_mode : IsWriterFor mode writer
  pub round : List JournalEntry
  pub parts : IsStep step mode (Says s) (change_entries step.session step.number mode (Finished writer round))
  pub follows : RoundFollows step.session step.number (round_due_after run.round_every mode step.state.commits) round

-- It fails by a cause, once the writer is open.
pub record HasFailedBy (step : SessionStep) (s : Statement) (writer : Snapshot) (cause : AbortCause) : Type 0 where
  pub mode : Mode
  pub of_mode : IsWriterFor mode writer
  pub parts : IsStep step mode (Says s) (change_entries step.session step.number mode (Failed writer cause))
