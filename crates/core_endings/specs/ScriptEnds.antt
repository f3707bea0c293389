-- The watch of a session at the end of its script.
-- Source: this project's own.
use Rattle.std.specs.Prelude.{◌≡◌, ℕ, List, Option, Some, None}
use Rattle.core_program.specs.CoreFits.{CoreEntry}
use Rattle.cube_core.specs.declared.cell.CoreCell.{CoreCell}
use Rattle.cube_run.specs.SessionStates.{KeptWatch}
use Rattle.linked_shards.specs.CellShards.{CoreShardStands}
use Rattle.linked_shards.specs.declared.cell.CoreShard.{CoreShard}
use Rattle.session_watches.specs.KnownReaders.{HoldersHave}
use Rattle.shard_events.specs.ShardsInRuns.{FitsShard, ShardAnswerSays}
use Rattle.watch_holds.specs.HolderStates.{IsHolderOf, OneReader}

-- The watch is the one whose reader is held under this number, or there is none.
abbrev pub IsWatchUnder : Option ℕ → Option KeptWatch → Type 0
IsWatchUnder (Some holder) (Some kept) = kept.holder ≡ holder
IsWatchUnder None None = Unit {0}
IsWatchUnder holder watch = ⊥

-- The session's one reader is held under a holder's number.
pub record HoldsReaderUnder (cells : List (CoreCell CoreShard)) (caller session : ℕ) (own : List CoreEntry)
    (holder : ℕ) : Type 0 where
  pub is_holder : IsHolderOf session holder
  pub epoch : ℕ
  pub reader : HoldersHave FitsShard CoreShardStands ShardAnswerSays cells caller session own (OneReader holder epoch)
