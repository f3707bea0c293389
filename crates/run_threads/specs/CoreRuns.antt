-- The run of the core that a history of calls on its cells is.
-- Source: this project's own; linearizability (Herlihy and Wing, 1990) makes one list of the calls of all threads.
use Rattle.std.specs.Prelude.{◌≡◌, ℕ, List}
use lib.ListN.{get_elem?}
use mathlib.Core.Option.{some}
use Rattle.cube_core.specs.Links.{AreEventsOf}
use Rattle.cube_core.specs.BoardCells.{IsEntryEvent, StandsInCell}
use Rattle.core_events.specs.Events.{Opening, CoreEvent}
use Rattle.core_events.specs.Runs.{IsCoreRun}
use Rattle.core_program.specs.CoreFits.{CoreEntry}
use Rattle.cube_core.specs.declared.cell.CoreCell.{CoreCell}
use Rattle.linked_shards.specs.CellShards.{CoreShardStands}
use Rattle.linked_shards.specs.declared.cell.CoreShard.{CoreShard}
use Rattle.shard_events.specs.ShardsInRuns.{FitsShard, ShardAnswerSays}

-- The entries are the events of a run, each one event in their order, and the run made of the cells what they are.
pub record IsRunTo (o : Opening) (cells : List (CoreCell CoreShard)) (log : List CoreEntry) : Type 0 where
  pub es : List CoreEvent
  pub events : AreEventsOf (IsEntryEvent FitsShard CoreShardStands ShardAnswerSays o) log es
  pub run : IsCoreRun o es
  pub stand : (k : ℕ) (x : CoreCell CoreShard) → get_elem? cells k ≡ some x
      → StandsInCell FitsShard CoreShardStands ShardAnswerSays o k x es
