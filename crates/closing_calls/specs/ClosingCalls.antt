-- The calls of main before the sessions and after them, and what it then knows. It is client 0 by its own number.
-- Source: Cubrick (VLDB 2016), purges up to LSE; what main does at the end of a run is this project's own.
use Rattle.std.specs.Prelude.{◌≡◌, ℕ, ◌+◌, zero, suc, true, List, [], ◌∷◌, ◌++◌}
use Rattle.core_program.specs.ClientCalls.{close_entry}
use Rattle.core_events.specs.Clients.{ClientState}
use Rattle.core_events.specs.Events.{Opening}
use Rattle.core_events.specs.Fitting.{HasAllDone}
use Rattle.core_events.specs.Groups.{Purges, is_ready}
use Rattle.core_program.specs.CoreFits.{CoreEntry}
use Rattle.cube_core.specs.declared.cell.CoreCell.{CoreCell}
use Rattle.session_snapshots.specs.KnownHolds.{KnowsState}
use Rattle.linked_shards.specs.CellShards.{CoreShardStands}
use Rattle.linked_shards.specs.declared.cell.CoreShard.{CoreShard}
use Rattle.session_requests.specs.SessionRequests.{KnowsSafe}
use Rattle.shard_events.specs.ShardsInRuns.{FitsShard, ShardAnswerSays}

-- Its last group has ended, and it may begin another.
abbrev pub IsMainReady : Opening → ClientState → Type 0
IsMainReady o k = is_ready o.shards k.group ≡ true

-- Each shard has purged up to the epoch: it has the answer of each, and none refused.
pub record HasPurgedAll (epoch : ℕ) (o : Opening) (k : ClientState) : Type 0 where
  pub purges : k.group.kind ≡ Purges epoch
  pub done : HasAllDone o.shards k.group

-- So many mails are closed, from the one at the cell on, the oldest call first.
abbrev pub close_entries : ℕ → ℕ → List CoreEntry
close_entries first zero = []
close_entries first (suc mails) = close_entries first mails ++ close_entry 0 (first + mails) ∷ []

module _ (cells : List (CoreCell CoreShard)) where
  -- Main knows by its own calls that its state is such.
  abbrev pub MainKnows : List CoreEntry → (Opening → ClientState → Type 0) → Type 0
  MainKnows own Is = KnowsState FitsShard CoreShardStands ShardAnswerSays cells 0 0 own Is

  abbrev pub MainIsReady : List CoreEntry → Type 0
  MainIsReady own = MainKnows own IsMainReady

-- Main was ready and is so after more own calls, and what it was told of LSE it knows.
pub record MainStays (cells : List (CoreCell CoreShard)) (own : List CoreEntry) (new_cells : List (CoreCell CoreShard))
    (now : List CoreEntry) : Type 0 where
  pub ready : MainIsReady cells own → MainIsReady new_cells now
  pub safe : (epoch : ℕ) → KnowsSafe cells 0 0 own epoch → KnowsSafe new_cells 0 0 now epoch
