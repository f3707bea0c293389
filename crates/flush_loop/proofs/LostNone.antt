-- Without a store no round is lost to a disk: between two rounds the flusher's own calls tell of none.
use Rattle.std.proofs.Common.{◌≡◌, ℕ, false, List}
use Rattle.cube_core.specs.Links.{AreEventsOf}
use Rattle.cube_core.specs.BoardCells.{IsEntryEvent}
use Rattle.core_program.specs.Flushing.{IsFlusherOf}
use Rattle.core_program.specs.Knowing.{IsLaterRun}
use Rattle.core_events.specs.Clients.{calls_of, state_from_calls}
use Rattle.core_events.specs.Events.{Opening, CoreEvent}
use Rattle.core_events.specs.Jobs.{CoreJob, JobOutcome}
use Rattle.core_events.specs.ShardView.{ShardView}
use Rattle.core_program.specs.CoreFits.{CoreEntry}
use Rattle.cube_core.specs.declared.cell.CoreCell.{CoreCell}
use Rattle.cube_core.specs.declared.shard.ShardAnswer.{ShardAnswer}
use Rattle.cube_core.specs.declared.shard.ShardCall.{ShardCall}
use Rattle.flush_loop.specs.MadeRounds.{KnowsBetween}
use Rattle.flush_loop.specs.PlainRounds.{HasLostNone}

module _ {S : Type 0} (fits : Opening → ℕ → ShardCall → Type 0) (stands : Opening → ℕ → ℕ → S → ShardView → Type 0)
    (says : CoreJob → ShardAnswer → JobOutcome → Type 0) (cells : List (CoreCell S)) (caller client shards : ℕ)
    (flush : IsFlusherOf fits stands says cells caller client shards) (own : List CoreEntry)
    (between : KnowsBetween fits stands says cells caller client false own) where
  -- In each run in which its own calls begin with these.
  pub none-lost : (o : Opening) (log : List CoreEntry) (run es : List CoreEvent)
      → IsLaterRun fits stands says cells o caller own log run → AreEventsOf (IsEntryEvent fits stands says o) own es
      → HasLostNone o (calls_of client es)
  none-lost o log run es later are =
      let is = flush.client_is o log later.opens in
      coe 0 1 (i. (state_from_calls o (is i) (calls_of client es)).store_lost ≡ false) (between o log run es later are).store
