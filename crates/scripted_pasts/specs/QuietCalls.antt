-- Calls that change no rows, speak of no cube, and ask for no text's code.
-- Source: this project's own.
use Rattle.std.specs.Prelude.{ℕ, List}
use mathlib.Core.List.{IsPrefix}
use Rattle.core_events.specs.Events.{Opening, ClientCall}
use Rattle.core_events.specs.Jobs.{CoreJob, JobOutcome}
use Rattle.core_events.specs.ShardView.{ShardView}
use Rattle.core_program.specs.CoreFits.{CoreEntry}
use Rattle.core_records.specs.ScriptedCalls.{SpeaksByScript}
use Rattle.core_states.specs.LeftBehind.{AddsEntries, AsksForNone, GoOnByCalls}
use Rattle.cube_core.specs.declared.cell.CoreCell.{CoreCell}
use Rattle.cube_core.specs.declared.shard.ShardAnswer.{ShardAnswer}
use Rattle.cube_core.specs.declared.shard.ShardCall.{ShardCall}
use Rattle.cube_journal.specs.declared.journal_entry.JournalEntry.{JournalEntry}
use Rattle.cube_run.specs.RunRecords.{Sentence}
use Rattle.posted_pasts.specs.PostsAdded.{PostsNoChange}

-- A call that posts neither rows nor a deletion, that asks for the code of no text, and that speaks by whatever script
-- there is. Plain calls are such, and so are those that open or close a reader.
pub record IsQuietCall (call : ClientCall) : Type 0 where
  pub posts : PostsNoChange call
  pub asks : AsksForNone call
  pub speaks : (script : List Sentence) → SpeaksByScript script call

module _ {S : Type 0} (fits : Opening → ℕ → ShardCall → Type 0) (stands : Opening → ℕ → ℕ → S → ShardView → Type 0)
    (says : CoreJob → ShardAnswer → JobOutcome → Type 0) (cells : List (CoreCell S)) (caller session : ℕ) where
  -- From these own calls to those there are quiet ones, and they leave these entries.
  pub record LeavesQuietly (own now : List CoreEntry) (added : List JournalEntry) : Type 0 where
    pub more : IsPrefix own now
    pub entries : AddsEntries fits stands says cells caller session own now added
    pub calls : GoOnByCalls fits stands says cells caller session IsQuietCall own now
