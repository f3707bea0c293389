-- The calls of a statement that changes rows, over shards, and what they leave.
-- Source: this project's own.
use Rattle.std.specs.Prelude.{ℕ, List, []}
use mathlib.Core.List.{IsPrefix}
use Rattle.core_cubes.specs.StatementCalls.{SpeaksFor}
use Rattle.core_events.specs.Events.{ClientCall}
use Rattle.core_program.specs.CoreFits.{CoreEntry}
use Rattle.core_states.specs.LeftBehind.{AddsEntries, AsksForNone, GoOnByCalls, LeavesReaders}
use Rattle.cube_core.specs.declared.cell.CoreCell.{CoreCell}
use Rattle.cube_journal.specs.declared.journal_entry.JournalEntry.{JournalEntry}
use Rattle.cube_language.specs.declared.statement.Statement.{Statement}
use Rattle.linked_shards.specs.CellShards.{CoreShardStands}
use Rattle.linked_shards.specs.declared.cell.CoreShard.{CoreShard}
use Rattle.shard_events.specs.ShardsInRuns.{FitsShard, ShardAnswerSays}

-- A call that speaks for the statement of this number, and neither opens nor closes a reader.
pub record IsCallOfChange (number : ℕ) (s : Statement) (call : ClientCall) : Type 0 where
  pub speaks : SpeaksFor number s call
  pub readers : LeavesReaders call

module _ (cells : List (CoreCell CoreShard)) (caller session : ℕ) where
  -- From these calls of the session to those there are such of the statement, and they leave these entries.
  pub record LeavesForChange (number : ℕ) (s : Statement) (own now : List CoreEntry) (added : List JournalEntry)
      : Type 0 where
    pub more : IsPrefix own now
    pub entries : AddsEntries FitsShard CoreShardStands ShardAnswerSays cells caller session own now added
    pub calls : GoOnByCalls FitsShard CoreShardStands ShardAnswerSays cells caller session (IsCallOfChange number s) own
        now

  -- They leave no entry, and ask for the code of no text.
  pub record LeavesByJobs (number : ℕ) (s : Statement) (own now : List CoreEntry) : Type 0 where
    pub left : LeavesForChange number s own now []
    pub none : GoOnByCalls FitsShard CoreShardStands ShardAnswerSays cells caller session AsksForNone own now
