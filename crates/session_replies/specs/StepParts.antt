-- What of a step decides its reply: what the session was, what the statement says, and the entries that it leaves.
-- Source: this project's own.
use Rattle.std.specs.Prelude.{◌≡◌, List}
use Rattle.cube_journal.specs.declared.journal_entry.JournalEntry.{JournalEntry}
use Rattle.cube_run.specs.RunRecords.{Sentence}
use Rattle.cube_run.specs.SessionStates.{Mode}
use Rattle.cube_run.specs.SessionSteps.{SessionStep}

-- A step of a session of this mode that says this and leaves these entries.
pub record IsStep (step : SessionStep) (mode : Mode) (sentence : Sentence) (entries : List JournalEntry) : Type 0 where
  pub mode_is : step.state.mode ≡ mode
  pub sentence_is : step.sentence ≡ sentence
  pub entries_are : step.entries ≡ entries
