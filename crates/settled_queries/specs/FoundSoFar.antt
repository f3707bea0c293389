-- What a writer's scan has found, judged by the whole of a run.
-- Source: AOSI (ICDE 2018), a transaction sees its own earlier operations.
use Rattle.std.specs.Prelude.{ℕ, List}
use Rattle.agg_fold.specs.Standing.{StandsFor}
use Rattle.agg_fold.specs.declared.groups.Groups.{Groups}
use Rattle.cube_core.specs.Links.{AreEventsOf}
use Rattle.cube_core.specs.BoardCells.{IsEntryEvent}
use Rattle.core_events.specs.Clients.{calls_of}
use Rattle.core_events.specs.Events.{Opening, CoreEvent}
use Rattle.core_program.specs.CoreFits.{CoreEntry}
use Rattle.core_serial.specs.OwnOperations.{operations_by_calls}
use Rattle.cube_values.specs.declared.query.BoundQuery.{BoundQuery}
use Rattle.cube_values.specs.declared.snapshot.Snapshot.{Snapshot}
use Rattle.linked_shards.specs.CellShards.{CoreShardStands}
use Rattle.settled_queries.specs.OwnSoFar.{rows_to_find_with_own}
use Rattle.shard_events.specs.ShardsInRuns.{FitsShard, ShardAnswerSays}

-- Groups stand for what the writer is to find in the run, with the operations that its session's own calls posted.
pub record HasFoundSoFar (o : Opening) (session : ℕ) (own : List CoreEntry) (run : List CoreEvent) (query : BoundQuery)
    (writer : Snapshot) (groups : Groups) : Type 0 where
  pub es : List CoreEvent
  pub events : AreEventsOf (IsEntryEvent FitsShard CoreShardStands ShardAnswerSays o) own es
  pub stands : StandsFor query (rows_to_find_with_own o run query writer
      (operations_by_calls o session query.cube (calls_of session es) writer.epoch)) groups
