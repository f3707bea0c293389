-- What a group of each shard adds to the operations of the session's transactions.
-- Source: AOSI (ICDE 2018), the operations of a transaction; groups of jobs are this project's own.
use Rattle.std.specs.Prelude.{◌≡◌, ℕ, true, List}
use Rattle.cube_core.specs.Links.{AreEventsOf}
use Rattle.cube_core.specs.BoardCells.{IsEntryEvent}
use Rattle.core_program.specs.Knowing.{IsLaterRun}
use Rattle.core_events.specs.Clients.{calls_of}
use Rattle.core_events.specs.Events.{Opening, CoreEvent}
use Rattle.core_events.specs.Jobs.{CoreJob}
use Rattle.core_events.specs.Serial.{operations_with}
use Rattle.core_program.specs.CoreFits.{CoreEntry}
use Rattle.core_serial.specs.OwnOperations.{operations_by_calls}
use Rattle.cube_core.specs.declared.cell.CoreCell.{CoreCell}
use Rattle.linked_shards.specs.CellShards.{CoreShardStands}
use Rattle.linked_shards.specs.declared.cell.CoreShard.{CoreShard}
use Rattle.shard_events.specs.ShardsInRuns.{FitsShard, ShardAnswerSays}

-- The operations on each cube by the session's calls are those by its earlier calls, with what the job adds once, however
-- many shards it went to.
pub record AddsOnce (o : Opening) (session : ℕ) (job : CoreJob) (own : List CoreEntry) (es : List CoreEvent)
    : Type 0 where
  pub before : List CoreEvent
  pub events : AreEventsOf (IsEntryEvent FitsShard CoreShardStands ShardAnswerSays o) own before
  pub once : (cube epoch : ℕ) → operations_by_calls o session cube (calls_of session es) epoch
      ≡ operations_with cube epoch true job (operations_by_calls o session cube (calls_of session before) epoch)

-- So it is in each run in which its own calls begin with these.
abbrev pub LearnsOfOperations : List (CoreCell CoreShard) → ℕ → ℕ → CoreJob → List CoreEntry → List CoreEntry → Type 0
LearnsOfOperations cells caller session job own now =
    (o : Opening) (log : List CoreEntry) (run es : List CoreEvent)
    → IsLaterRun FitsShard CoreShardStands ShardAnswerSays cells o caller now log run
    → AreEventsOf (IsEntryEvent FitsShard CoreShardStands ShardAnswerSays o) now es → AddsOnce o session job own es
