-- A writer that every shard has taken back is ended, and its session's calls leave just that.
use Rattle.std.proofs.Common.{◌≡◌, ℕ, List, [], ◌∷◌, ◌++◌}
use Rattle.core_program.specs.ClientCalls.{desk_entry}
use Rattle.core_cells.specs.declared.desk.DeskAnswer.TheVariants as answer
use Rattle.core_cells.specs.declared.desk.DeskCall.TheVariants as call
use Rattle.core_program.specs.Knowing.{IsClientOf}
use Rattle.core_states.proofs.CallEntries.{aborts-at}
use Rattle.core_program.specs.CoreFits.{CoreEntry}
use Rattle.core_states.proofs.LeftCalls.{left-by-call, left-then}
use Rattle.cube_core.specs.declared.cell.CoreCell.{CoreCell}
use Rattle.cube_core.specs.declared.shard.ShardCall.TheVariants as shard
use Rattle.cube_journal.specs.declared.journal_entry.AbortCause.{AbortCause}
use Rattle.cube_journal.specs.declared.journal_entry.JournalEntry.TheVariants as entry
use Rattle.cube_values.specs.declared.snapshot.Snapshot.{Snapshot}
use Rattle.session_snapshots.specs.KnownHolds.{HoldsRolledBack}
use Rattle.linked_shards.specs.CellShards.{CoreShardStands}
use Rattle.linked_shards.specs.declared.cell.CoreShard.{CoreShard}
use Rattle.session_groups.specs.ShardGroups.{HasAskedAll}
use Rattle.shard_events.specs.ShardsInRuns.{FitsShard, ShardAnswerSays}
use Rattle.shard_statements.proofs.GroupsLeave.{left-by-rollback}
use Rattle.shard_statements.specs.OverShards.{LeavesOverShards}

module _ (cells : List (CoreCell CoreShard)) (caller session : ℕ)
    (acts : IsClientOf FitsShard CoreShardStands ShardAnswerSays cells caller session) where
  pub took-back : (shards statement : ℕ) (cause : AbortCause) (writer : Snapshot) (own mid now : List CoreEntry)
      → HasAskedAll cells caller session shards (shard.Rollback writer.epoch) own mid
      → HoldsRolledBack FitsShard CoreShardStands ShardAnswerSays cells caller session mid writer
      → now ≡ mid ++ desk_entry caller (call.AbortEnd session statement cause) answer.Done ∷ []
      → LeavesOverShards cells caller session own now (entry.Aborted session statement writer.epoch cause ∷ [])
  took-back shards statement cause writer own mid now asked rolled is =
      left-then FitsShard CoreShardStands ShardAnswerSays cells caller session own mid now []
      (entry.Aborted session statement writer.epoch cause ∷ [])
      (left-by-rollback cells caller session own mid shards writer.epoch asked)
      (left-by-call FitsShard CoreShardStands ShardAnswerSays cells caller session acts mid now writer.epoch
      (call.AbortEnd session statement cause) answer.Done is
      (aborts-at FitsShard CoreShardStands ShardAnswerSays cells caller session session statement cause mid writer rolled)
      (λ k. tt))
