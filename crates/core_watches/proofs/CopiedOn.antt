-- While names are copied a session's holders keep what they hold.
use Rattle.std.proofs.Common.{◌≡◌, ℕ, List, []}
use Rattle.core_names.proofs.PlainNames.{left-by-copies}
use Rattle.core_names.specs.AskedNames.{GoOnByCopies}
use Rattle.core_program.specs.CoreFits.{CoreEntry}
use Rattle.core_program.specs.Knowing.{IsClientOf}
use Rattle.cube_core.specs.declared.cell.CoreCell.{CoreCell}
use Rattle.kept_holders.proofs.LeftHolders.{holders-left, plain-are-own}
use Rattle.linked_shards.specs.CellShards.{CoreShardStands}
use Rattle.linked_shards.specs.declared.cell.CoreShard.{CoreShard}
use Rattle.session_watches.specs.KnownReaders.{HoldersKeep}
use Rattle.shard_events.specs.ShardsInRuns.{FitsShard, ShardAnswerSays}
use Rattle.shard_statements.specs.OverShards.{LeavesOverShards}

module _ (cells there : List (CoreCell CoreShard)) (caller number session : ℕ) (p : there ≡ cells) (q : number ≡ caller)
    (own now : List CoreEntry) where
  -- Calls that leave nothing keep what the holders hold.
  pub plain-holders : LeavesOverShards cells caller session own now []
      → HoldersKeep FitsShard CoreShardStands ShardAnswerSays session cells caller own there number now
  plain-holders left =
      coe 1 0 (i. HoldersKeep FitsShard CoreShardStands ShardAnswerSays session cells caller own (p i) (q i) now)
      (holders-left FitsShard CoreShardStands ShardAnswerSays cells caller session own now left.more
      (plain-are-own FitsShard CoreShardStands ShardAnswerSays cells caller session own now left.plain))

pub names-left : (cells : List (CoreCell CoreShard)) (caller session : ℕ) (own now : List CoreEntry)
    → IsClientOf FitsShard CoreShardStands ShardAnswerSays cells caller session → GoOnByCopies caller own now
    → LeavesOverShards cells caller session own now []
names-left cells caller session own now acts asks =
    left-by-copies FitsShard CoreShardStands ShardAnswerSays cells caller session acts own now asks
