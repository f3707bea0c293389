-- What the flusher knows by its own calls of what its store keeps.
-- Source: this project's own.
use Rattle.std.specs.Prelude.{◌≡◌, ℕ, List, [], ◌∷◌, ◌++◌}
use Rattle.aosi_desk.specs.declared.answer.RoundEnd.{RoundEnd}
use Rattle.core_program.specs.ClientCalls.{desk_entry}
use Rattle.core_cells.specs.declared.desk.DeskAnswer.TheVariants as answer
use Rattle.core_cells.specs.declared.desk.DeskCall.TheVariants as call
use Rattle.core_program.specs.CoreFits.{CoreEntry}
use Rattle.core_events.specs.Clients.{calls_of}
use Rattle.core_events.specs.Events.{Opening, CoreEvent}
use Rattle.cube_core.specs.BoardCells.{IsEntryEvent}
use Rattle.cube_core.specs.Links.{AreEventsOf}
use Rattle.flush_loop.specs.MadeRounds.{HoldsInRuns}
use Rattle.core_program.specs.Knowing.{IsLaterRun, Knows}
use Rattle.cube_core.specs.declared.cell.CoreCell.{CoreCell}
use Rattle.copied_rounds.specs.CopiedRounds.{IsRoundBehindKept}
use Rattle.cube_rounds.specs.Stands.{Kept}
use Rattle.cube_rounds.specs.declared.round.Round.{Round}
use Rattle.flush_round.specs.KeptRounds.{IsKeptOfRuns, IsToldOfKept, TakesRound}
use Rattle.job_groups.specs.AskedEach.{HasMore}
use Rattle.linked_shards.specs.CellShards.{CoreShardStands}
use Rattle.shard_events.specs.ShardsInRuns.{FitsShard, ShardAnswerSays}
use Rattle.linked_shards.specs.declared.cell.CoreShard.{CoreShard}
use Rattle.outside_disk.specs.Views.{View}
use Rattle.round_copies.specs.WithinRounds.{KnowsOfFlusher, StaysWithinRound}
use Rattle.round_copies.specs.declared.span.RoundSpan.{RoundSpan}
use Rattle.stored_rounds.specs.RoundsInStore.{CountsGoOn, GoesByRoundsOfRun, HasContentOfRun, KeepsOfRun}
use Rattle.stored_rounds.specs.SafeEpochs.{safe_by_calls}
use Rattle.stored_rounds.specs.declared.stored.StoredRounds.{StoredRounds}

module _ (cells : List (CoreCell CoreShard)) (caller client : ℕ) (own : List CoreEntry) where
  -- It has the content of each run with these calls.
  abbrev pub HasContentOfRuns : Kept → Type 0
  HasContentOfRuns kept = (o : Opening) (log : List CoreEntry) (run : List CoreEvent)
      → IsLaterRun FitsShard CoreShardStands ShardAnswerSays cells o caller own log run → HasContentOfRun o run kept

  -- This is kept of each run with these calls, by which the flusher was told of it and knows where it ends.
  pub record IsKeptByCalls (kept : Kept) : Type 0 where
    pub of_runs : IsKeptOfRuns cells caller own kept
    pub told : KnowsOfFlusher cells caller client own (λ o k. IsToldOfKept kept k)
    pub up_to : Knows FitsShard CoreShardStands ShardAnswerSays cells caller client own
        (λ o calls. kept.epoch ≡ safe_by_calls o calls)
    pub content : HasContentOfRuns kept

  -- In each run with these calls a round is one of the run: it has what all shards copied at some moment, and cubes and
  -- names of the run since, behind what was kept then.
  abbrev pub IsRoundOfRuns : Kept → Round → Type 0
  IsRoundOfRuns kept round = (o : Opening) (log : List CoreEntry) (run : List CoreEvent)
      → IsLaterRun FitsShard CoreShardStands ShardAnswerSays cells o caller own log run
      → IsRoundBehindKept o run client kept.cubes kept.names round

  -- A store stands for what is kept so, and takes the round that is open.
  pub record IsReadyForRound {D : Type 0} (view : D → View) (span : RoundSpan) (m : StoredRounds D) (kept : Kept)
      : Type 0 where
    pub by_calls : IsKeptByCalls kept
    pub takes : TakesRound cells caller own m.store kept span (view m.first) (view m.second)

  module _ {D : Type 0} (view : D → View) where
    -- By rounds of each run with these calls the store has come to keep this.
    abbrev pub GoesByRoundsOfRuns : StoredRounds D → StoredRounds D → Kept → Type 0
    GoesByRoundsOfRuns begun m kept = (o : Opening) (log : List CoreEntry) (run es : List CoreEvent)
        → IsLaterRun FitsShard CoreShardStands ShardAnswerSays cells o caller own log run
        → AreEventsOf (IsEntryEvent FitsShard CoreShardStands ShardAnswerSays o) own es
        → GoesByRoundsOfRun view o run begun m kept (calls_of client es)

    -- Where it has come by rounds to what it then keeps, and takes the round that is open, it keeps on with that round.
    abbrev pub KeepsOnByRound : RoundSpan → StoredRounds D → StoredRounds D → List CoreEntry → Type 0
    KeepsOnByRound span before after now = (begun : StoredRounds D) (kept : Kept) → IsReadyForRound view span before kept
        → GoesByRoundsOfRuns begun before kept → CountsGoOn view begun before
        → HoldsInRuns FitsShard CoreShardStands ShardAnswerSays cells caller client (KeepsOfRun view begun after) now

  -- By more calls the flusher stays within its round, and then closes it so.
  pub record ClosesRound (epoch : ℕ) (how : RoundEnd) (now : List CoreEntry) : Type 0 where
    pub last : List CoreEntry
    pub more : HasMore own last
    pub within : StaysWithinRound cells caller client own last
    pub whole : now ≡ last ++ desk_entry caller (call.RoundClose epoch how) answer.Done ∷ []
