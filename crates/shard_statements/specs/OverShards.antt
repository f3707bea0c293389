-- What a session's calls leave behind them, over shards.
-- Source: this project's own.
use Rattle.std.specs.Prelude.{ℕ, List}
use Rattle.core_program.specs.CoreFits.{CoreEntry}
use Rattle.core_states.specs.LeftBehind.{LeavesBehind}
use Rattle.cube_core.specs.declared.cell.CoreCell.{CoreCell}
use Rattle.cube_journal.specs.declared.journal_entry.JournalEntry.{JournalEntry}
use Rattle.linked_shards.specs.CellShards.{CoreShardStands}
use Rattle.linked_shards.specs.declared.cell.CoreShard.{CoreShard}
use Rattle.shard_events.specs.ShardsInRuns.{FitsShard, ShardAnswerSays}

-- From these calls of the session to those there are plain ones, and they leave these entries.
abbrev pub LeavesOverShards : List (CoreCell CoreShard) → ℕ → ℕ → List CoreEntry → List CoreEntry
    → List JournalEntry → Type 0
LeavesOverShards cells caller session own now added =
    LeavesBehind FitsShard CoreShardStands ShardAnswerSays cells caller session own now added
