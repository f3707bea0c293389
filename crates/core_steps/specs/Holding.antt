-- What a session holds between two steps.
-- Source: AOSI (ICDE 2018), explicit transactions.
use Rattle.std.specs.Prelude.{ℕ, List}
use Rattle.core_program.specs.CoreFits.{CoreEntry}
use Rattle.cube_core.specs.declared.cell.CoreCell.{CoreCell}
use Rattle.session_snapshots.specs.KnownHolds.{HoldsNothing, HoldsWriter}
use Rattle.linked_shards.specs.CellShards.{CoreShardStands}
use Rattle.linked_shards.specs.declared.cell.CoreShard.{CoreShard}
use Rattle.shard_events.specs.ShardsInRuns.{FitsShard, ShardAnswerSays}
use Rattle.core_steps.specs.Histories.{HasCoreHistory}
use Rattle.core_steps.specs.OnCore.{IsOnCore}
use Rattle.core_steps.specs.declared.plays.HeldSnapshot.{HeldSnapshot}
use Rattle.core_steps.specs.declared.plays.HeldSnapshot.TheVariants.{Nothing, Writer}

-- It holds nothing, or this writer.
abbrev pub HoldsAs : List (CoreCell CoreShard) → ℕ → ℕ → List CoreEntry → HeldSnapshot → Type 0
HoldsAs cells caller session own Nothing =
    HoldsNothing FitsShard CoreShardStands ShardAnswerSays cells caller session own
HoldsAs cells caller session own (Writer s) =
    HoldsWriter FitsShard CoreShardStands ShardAnswerSays cells caller session own s

-- A session of a core of so many shards holds this, and a history has its caller's calls.
pub record Sits (shards session : ℕ) (cells : List (CoreCell CoreShard)) (caller : ℕ) (own : List CoreEntry)
    (held : HeldSnapshot) : Type 0 where
  pub on_core : IsOnCore shards cells caller session
  pub holds : HoldsAs cells caller session own held
  pub history : HasCoreHistory cells caller own

-- Before its first call it holds nothing, and a history without calls has its calls.
pub record BeginsOnCore (shards : ℕ) (cells : List (CoreCell CoreShard)) (caller session : ℕ) (own : List CoreEntry)
    : Type 0 where
  pub on_core : IsOnCore shards cells caller session
  pub holds : HoldsNothing FitsShard CoreShardStands ShardAnswerSays cells caller session own
  pub history : HasCoreHistory cells caller own
