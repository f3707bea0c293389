-- The calls of a watch, seen over the cells and by the caller of before.
use Rattle.std.proofs.Common.{ℕ, List, [], inl, inr, sym, subst}
use Rattle.core_program.specs.CoreFits.{CoreEntry}
use Rattle.core_states.proofs.LeftCalls.{left-nothing}
use Rattle.cube_core.specs.declared.cell.CoreCell.{CoreCell}
use Rattle.cube_core.specs.declared.shard.ShardCall.TheVariants as shard
use Rattle.cube_core.specs.declared.shard.ShardCall.{ShardCall}
use Rattle.cube_values.specs.declared.query.BoundQuery.{BoundQuery}
use Rattle.cube_values.specs.declared.shape.CubeShape.{CubeShape}
use Rattle.cube_values.specs.declared.snapshot.Snapshot.{Snapshot}
use Rattle.linked_shards.specs.CellShards.{CoreShardStands}
use Rattle.linked_shards.specs.declared.cell.CoreShard.{CoreShard}
use Rattle.session_groups.specs.ShardGroups.{MayHaveAsked}
use Rattle.shard_events.specs.ShardsInRuns.{FitsShard, ShardAnswerSays}
use Rattle.shard_statements.proofs.GroupsLeave.{IsPlainJob, left-by-group}
use Rattle.shard_statements.specs.OverShards.{LeavesOverShards}

module _ (cells : List (CoreCell CoreShard)) (caller session : ℕ) (own now : List CoreEntry) where
  left-by-asking : (shards : ℕ) (c : ShardCall) → IsPlainJob c → MayHaveAsked cells caller session shards c own now
      → LeavesOverShards cells caller session own now []
  left-by-asking shards c plain (inl same) =
      subst (λ (l : List CoreEntry). LeavesOverShards cells caller session own l []) (sym same)
      (left-nothing FitsShard CoreShardStands ShardAnswerSays cells caller session own)
  left-by-asking shards c plain (inr asked) = left-by-group cells caller session own now shards c plain asked

  pub left-by-scan : (shards : ℕ) (shape : CubeShape) (query : BoundQuery) (snapshot : Snapshot)
      → MayHaveAsked cells caller session shards (shard.Scan shape query snapshot) own now
      → LeavesOverShards cells caller session own now []
  left-by-scan shards shape query snapshot =
      left-by-asking shards (shard.Scan shape query snapshot) (λ number. tt)

  pub left-by-delta : (shards : ℕ) (shape : CubeShape) (query : BoundQuery) (from to : ℕ)
      → MayHaveAsked cells caller session shards (shard.Delta shape query from to) own now
      → LeavesOverShards cells caller session own now []
  left-by-delta shards shape query from to =
      left-by-asking shards (shard.Delta shape query from to) (λ number. tt)
