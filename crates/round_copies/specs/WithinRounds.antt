-- What the flusher does within a round that it has opened.
-- Source: this project's own.
use Rattle.std.specs.Prelude.{◌≡◌, ℕ, List, ◌++◌, map}
use Rattle.std.specs.List.{AllByRecursion}
use Rattle.board_callers.specs.Callers.{HasHistoryOf}
use Rattle.cube_core.specs.Links.{AreEventsOf}
use Rattle.cube_core.specs.BoardCells.{IsEntryEvent}
use Rattle.core_program.specs.Knowing.{IsLaterRun}
use Rattle.core_events.specs.Clients.{ClientState}
use Rattle.core_events.specs.Events.{Opening, ClientCall, CoreEvent, By}
use Rattle.core_program.specs.CoreFits.{CoreEntry, FitsOwnCalls}
use Rattle.cube_core.specs.CoreSteps.{CoreStep}
use Rattle.cube_core.specs.declared.cell.CoreCell.{CoreCell}
use Rattle.flusher_rounds.specs.FlushReplies.{IsWithinRound}
use Rattle.session_snapshots.specs.KnownHolds.{KnowsState}
use Rattle.linked_shards.specs.CellShards.{CoreShardStands, CoreShardStep}
use Rattle.linked_shards.specs.declared.cell.CoreShard.{CoreShard}
use Rattle.shard_events.specs.ShardsInRuns.{FitsShard, ShardAnswerSays}

-- The flusher's calls go on by some that neither open nor close a round.
pub record GoOnWithinRound (o : Opening) (client : ℕ) (own : List CoreEntry) (es : List CoreEvent) : Type 0 where
  pub before : List CoreEvent
  pub events : AreEventsOf (IsEntryEvent FitsShard CoreShardStands ShardAnswerSays o) own before
  pub added : List ClientCall
  pub whole : es ≡ map (λ c. By client c) added ++ before
  pub within : AllByRecursion IsWithinRound added

-- A history of the board has these calls.
abbrev pub HasHistory : List (CoreCell CoreShard) → ℕ → List CoreEntry → Type 0
HasHistory cells caller own =
    HasHistoryOf (CoreStep CoreShardStep) (FitsOwnCalls FitsShard CoreShardStands ShardAnswerSays) cells caller own

module _ (cells : List (CoreCell CoreShard)) (caller client : ℕ) where
  -- The flusher's state is such, by its own calls.
  abbrev pub KnowsOfFlusher : List CoreEntry → (Opening → ClientState → Type 0) → Type 0
  KnowsOfFlusher own Is = KnowsState FitsShard CoreShardStands ShardAnswerSays cells caller client own Is

  -- In each run in which its own calls begin so, they go on within its round.
  abbrev pub StaysWithinRound : List CoreEntry → List CoreEntry → Type 0
  StaysWithinRound own now =
      (o : Opening) (log : List CoreEntry) (run es : List CoreEvent)
      → IsLaterRun FitsShard CoreShardStands ShardAnswerSays cells o caller now log run
      → AreEventsOf (IsEntryEvent FitsShard CoreShardStands ShardAnswerSays o) now es
      → GoOnWithinRound o client own es
