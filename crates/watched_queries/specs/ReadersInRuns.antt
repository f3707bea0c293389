-- What groups stand for and what a change leads to, in each run in which the session's own calls begin with these: at the
-- moment after them, and at every later one.
-- Source: AOSI (ICDE 2018), readers and serial execution; materialized views kept by their changes (Gupta, Mumick,
-- Subrahmanian, SIGMOD 1993).
use Rattle.std.specs.Prelude.{ℕ, List}
use Rattle.cube_values.specs.declared.query.BoundQuery.{BoundQuery}
use Rattle.cube_values.specs.declared.row.CodedRow.{CodedRow}
use Rattle.agg_fold.specs.Standing.{StandsFor}
use Rattle.agg_fold.specs.declared.groups.Groups.{Groups}
use Rattle.core_program.specs.Knowing.{IsLaterRun}
use Rattle.core_serial.specs.Deltas.{IsDifference}
use Rattle.core_events.specs.Clients.{reader_up_to}
use Rattle.core_events.specs.Events.{Opening, CoreEvent}
use Rattle.core_program.specs.CoreFits.{CoreEntry}
use Rattle.core_serial.specs.CubeRows.{rows_to_find}
use Rattle.cube_core.specs.declared.cell.CoreCell.{CoreCell}
use Rattle.linked_shards.specs.CellShards.{CoreShardStands}
use Rattle.linked_shards.specs.declared.cell.CoreShard.{CoreShard}
use Rattle.shard_events.specs.ShardsInRuns.{FitsShard, ShardAnswerSays}
use Rattle.session_watches.specs.DeltaAnswers.{AreGroupsOfShards}
use Rattle.standing_query.specs.declared.change.Change.{Change}

-- The rows of a query that the transactions up to an epoch leave, run one after the other.
abbrev pub rows_up_to : Opening → List CoreEvent → BoundQuery → ℕ → List CodedRow
rows_up_to o run query epoch = rows_to_find o run query (reader_up_to epoch)

-- By a change the rows up to one epoch become those up to another, each as often.
pub record LeadsUpTo (query : BoundQuery) (from to : ℕ) (change : Change) (o : Opening) (run : List CoreEvent)
    : Type 0 where
  pub more : List CodedRow
  pub less : List CodedRow
  pub came : AreGroupsOfShards query o.shards more change.came.groups
  pub went : AreGroupsOfShards query o.shards less change.went.groups
  pub difference : IsDifference (rows_up_to o run query from) more less (rows_up_to o run query to)

module _ (cells : List (CoreCell CoreShard)) (caller : ℕ) (own : List CoreEntry) where
  -- A fact on a run holds in each such run.
  abbrev pub HoldsInRuns : (Opening → List CoreEvent → Type 0) → Type 0
  HoldsInRuns P = (o : Opening) (log : List CoreEntry) (run : List CoreEvent)
      → IsLaterRun FitsShard CoreShardStands ShardAnswerSays cells o caller own log run → P o run

  -- Groups stand for the rows up to an epoch.
  abbrev pub StandUpTo : BoundQuery → ℕ → Groups → Type 0
  StandUpTo query epoch groups = HoldsInRuns (λ o run. StandsFor query (rows_up_to o run query epoch) groups)

  abbrev pub ChangeLeadsUpTo : BoundQuery → ℕ → ℕ → Change → Type 0
  ChangeLeadsUpTo query from to change = HoldsInRuns (LeadsUpTo query from to change)
