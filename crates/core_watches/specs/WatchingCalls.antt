-- The calls by which a session sets a watch up, and shows it.
-- Source: AOSI (ICDE 2018), readers; materialized views kept by their changes (Gupta, Mumick, Subrahmanian, SIGMOD 1993).
use Rattle.std.specs.Prelude.{ℕ, List}
use mathlib.Core.List.{IsPrefix}
use Rattle.aosi_desk.specs.declared.cube.CubeFound.TheVariants.{Unknown}
use Rattle.core_events.specs.Events.{CreateCube, FindCube, Encode, ClientCall, OnDesk, OnNames, Post}
use Rattle.core_events.specs.Jobs.{Append, DropBox}
use Rattle.core_program.specs.CoreFits.{CoreEntry}
use Rattle.core_states.specs.LeftBehind.{AddsEntries, GoOnByCalls}
use Rattle.cube_core.specs.declared.cell.CoreCell.{CoreCell}
use Rattle.cube_journal.specs.declared.journal_entry.JournalEntry.{JournalEntry}
use Rattle.linked_shards.specs.CellShards.{CoreShardStands}
use Rattle.shard_events.specs.ShardsInRuns.{FitsShard, ShardAnswerSays}
use Rattle.linked_shards.specs.declared.cell.CoreShard.{CoreShard}

-- A call that posts neither rows nor a deletion, and by which no cube is made or missed and no text given a code.
abbrev pub IsWatchingCall : ClientCall → Type 0
IsWatchingCall (OnDesk (CreateCube statement decl answer)) = ⊥
IsWatchingCall (OnDesk (FindCube statement name Unknown)) = ⊥
IsWatchingCall (OnNames (Encode cube dim name code)) = ⊥
IsWatchingCall (Post mail (Append cube epoch rows)) = ⊥
IsWatchingCall (Post mail (DropBox cube epoch box)) = ⊥
IsWatchingCall call = Unit {0}

module _ (cells : List (CoreCell CoreShard)) (caller session : ℕ) (own now : List CoreEntry) where
  -- From these calls of the session to those each is such.
  abbrev pub GoesOnByWatching : Type 0
  GoesOnByWatching = GoOnByCalls FitsShard CoreShardStands ShardAnswerSays cells caller session IsWatchingCall own now

  -- They leave these entries besides.
  pub record LeavesByWatching (added : List JournalEntry) : Type 0 where
    pub more : IsPrefix own now
    pub entries : AddsEntries FitsShard CoreShardStands ShardAnswerSays cells caller session own now added
    pub calls : GoesOnByWatching
