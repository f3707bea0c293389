-- The works of a run of the core besides those of the sessions: a shard's worker, the flusher, and main.
-- Source: Cubrick (VLDB 2016), one thread a shard and rounds of a flush; what main does at the end is own.
use Rattle.std.specs.Prelude.{◌≡◌, ℕ, ◌+◌, ◌<◌, ◌≤◌, Bool, true, false, List, [], ◌∷◌, ◌++◌, Option, Some, None}
use Rattle.core_program.specs.ClientCalls.{close_entry, desk_entry}
use Rattle.closing_calls.specs.ClosingCalls.{HasPurgedAll, MainIsReady, MainKnows, close_entries}
use Rattle.core_cells.specs.declared.desk.DeskAnswer.TheVariants as answer
use Rattle.core_cells.specs.declared.desk.DeskCall.TheVariants as desk
use Rattle.core_program.specs.Knowing.{IsClientOf, IsMailAt}
use Rattle.core_program.specs.Flushing.{IsFlusherOf}
use Rattle.core_program.specs.CoreFits.{CoreEntry}
use Rattle.core_program.specs.Workers.{IsWorkerOf}
use Rattle.cube_core.specs.declared.cell.CoreCell.{CoreCell}
use Rattle.cube_core.specs.declared.shard.ShardCall.TheVariants as call
use Rattle.cube_journal.specs.declared.counters.Counters.{Counters}
use Rattle.flush_loop.specs.FlushTurns.{LearnsOfFlushes}
use Rattle.flush_loop.specs.MadeRounds.{HoldsInRuns, KeptClaim}
use Rattle.flush_loop.specs.declared.round_result.RoundResult.{RoundResult}
use Rattle.job_groups.specs.AskedEach.{AreShardMails}
use Rattle.linked_shards.specs.CellShards.{CoreShardStands}
use Rattle.linked_shards.specs.declared.cell.CoreShard.{CoreShard}
use Rattle.session_groups.specs.ShardGroups.{HasAskedAll}
use Rattle.shard_events.specs.ShardsInRuns.{FitsShard, ShardAnswerSays}

-- The cells that a core opens with.
abbrev pub OpeningCells : Type 0
OpeningCells = List (CoreCell CoreShard)

-- The caller is the worker of the shard, on a board with all callers of the core.
pub record MayServeShard (shards sessions number callers : ℕ) (cells : OpeningCells) (caller : ℕ) : Type 0 where
  pub all : sessions + 2 + shards ≤ callers
  pub there : number < shards
  pub worker : IsWorkerOf FitsShard CoreShardStands ShardAnswerSays cells caller number (2 + shards + number)

module _ {M : Type 0} (serves : M → OpeningCells → Type 0) (has_kept : M → M → KeptClaim) where
  -- What makes the rounds of a core has kept what it says since it was begun, in each run in which the flusher's calls
  -- begin with these.
  pub record KeepsRounds (sessions : ℕ) (begun maker : M) (cells : OpeningCells) (caller : ℕ) (own : List CoreEntry)
      : Type 0 where
    pub serves_core : serves maker cells
    pub kept : HoldsInRuns FitsShard CoreShardStands ShardAnswerSays cells caller (sessions + 1) (has_kept begun maker)
        own

  -- The caller is the flusher, which has made no call.
  pub record MayFlush (shards sessions : ℕ) (maker : M) (callers : ℕ) (cells : OpeningCells) (caller : ℕ) : Type 0 where
    pub all : sessions + 2 + shards ≤ callers
    pub some : 1 ≤ shards
    pub flusher : IsFlusherOf FitsShard CoreShardStands ShardAnswerSays cells caller (sessions + 1) shards
    pub mail : IsMailAt FitsShard CoreShardStands ShardAnswerSays cells shards (2 + shards + shards)
    pub mails : AreShardMails FitsShard CoreShardStands ShardAnswerSays cells (sessions + 1) shards (2 + shards)
    pub keeps : KeepsRounds sessions maker maker cells caller []

  -- It served its mail by these calls until that was closed, and made its last round.
  pub record HasFlushedAll (becomes : M → M → Type 0) (shards sessions : ℕ) (before after : M)
      (last : Option RoundResult) (cells : OpeningCells) (caller : ℕ) (own : List CoreEntry) : Type 0 where
    pub learns : LearnsOfFlushes FitsShard CoreShardStands ShardAnswerSays cells caller (sessions + 1) shards last []
        own
    pub keeps : KeepsRounds sessions before after cells caller own
    pub made : becomes before after

-- Main may close each mail of the core, and have the shards purge.
pub record MayClose (shards sessions callers : ℕ) (cells : OpeningCells) : Type 0 where
  pub all : sessions + 2 + shards ≤ callers
  pub some : 1 ≤ shards
  pub client : IsClientOf FitsShard CoreShardStands ShardAnswerSays cells 0 0
  pub mail : IsMailAt FitsShard CoreShardStands ShardAnswerSays cells shards (2 + shards + shards)
  pub mails : AreShardMails FitsShard CoreShardStands ShardAnswerSays cells 0 shards (2 + shards)

-- It has closed the flusher's mail, by its only call.
pub record HasClosedFlusher (shards sessions callers : ℕ) (cells : OpeningCells) (own : List CoreEntry) : Type 0 where
  pub may : MayClose shards sessions callers cells
  pub closed : own ≡ close_entry 0 (2 + shards + shards) ∷ []
  pub ready : MainIsReady cells own

-- It read the counters, and has the answer of a purge up to their LSE of each shard.
pub record HasPurged (shards : ℕ) (cells : OpeningCells) (counters : Counters) (own now : List CoreEntry) : Type 0 where
  pub asked : HasAskedAll cells 0 0 shards (call.Purge counters.lse)
      (own ++ desk_entry 0 desk.Counters (answer.Counted counters) ∷ []) now
  pub purged : MainKnows cells now (HasPurgedAll counters.lse)

-- So it did where the sessions had begun, and else it made no call.
abbrev pub PurgesAtEnd : ℕ → OpeningCells → Bool → Option Counters → List CoreEntry → List CoreEntry → Type 0
PurgesAtEnd shards cells true (Some counters) own now = HasPurged shards cells counters own now
PurgesAtEnd shards cells false None own now = now ≡ own
PurgesAtEnd shards cells began counters own now = ⊥

-- Then it closed the mails of all shards.
pub record HasClosedShards (shards : ℕ) (began : Bool) (counters : Option Counters) (cells : OpeningCells)
    (own now : List CoreEntry) : Type 0 where
  pub purged : List CoreEntry
  pub purges : PurgesAtEnd shards cells began counters own purged
  pub closes : now ≡ purged ++ close_entries (2 + shards) shards
