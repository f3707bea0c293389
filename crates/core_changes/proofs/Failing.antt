-- What a session has left, and holds, once a change has failed.
use Rattle.std.proofs.Common.{ℕ, List}
use Rattle.core_program.specs.CoreFits.{CoreEntry}
use Rattle.core_states.specs.StandingInCore.{HoldsForMode}
use Rattle.cube_core.specs.declared.cell.CoreCell.{CoreCell}
use Rattle.session_snapshots.specs.KnownHolds.{HoldsNothing}
use Rattle.linked_shards.specs.CellShards.{CoreShardStands}
use Rattle.linked_shards.specs.declared.cell.CoreShard.{CoreShard}
use Rattle.core_changes.specs.ChangeEnds.{failed_mode}
use Rattle.session_replies.specs.Modes.{mode_of}
use Rattle.session_replies.specs.declared.mode.SessionMode.{SessionMode}
use Rattle.session_replies.specs.declared.mode.SessionMode.TheVariants as variant
use Rattle.shard_events.specs.ShardsInRuns.{FitsShard, ShardAnswerSays}

module _ (cells : List (CoreCell CoreShard)) (caller session : ℕ) (now : List CoreEntry) where
  -- No mode after a failure holds anything.
  pub holds-failed : (mode : SessionMode)
      → HoldsNothing FitsShard CoreShardStands ShardAnswerSays cells caller session now
      → HoldsForMode FitsShard CoreShardStands ShardAnswerSays cells caller session now (mode_of (failed_mode mode))
  holds-failed variant.Idle holds = holds
  holds-failed (variant.Open writer) holds = holds
  holds-failed (variant.Aborted epoch) holds = holds
