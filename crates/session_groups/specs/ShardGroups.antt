-- What a session asks of all shards, and what it then knows.
-- Source: Cubrick (VLDB 2016), one request that goes to all shards; AOSI (ICDE 2018), deletions and rollbacks.
use Rattle.std.specs.Prelude.{◌≡◌, ◌⊎◌, ℕ, ◌<◌, Bool, true, false, List, All, length, replicate}
use Rattle.cube_values.specs.Spans.{IsSoundPart}
use Rattle.cube_values.specs.declared.query.BoundQuery.{BoundQuery}
use Rattle.cube_values.specs.declared.shape.CubeShape.{CubeShape}
use Rattle.cube_values.specs.declared.snapshot.Snapshot.{Snapshot}
use Rattle.cube_values.specs.declared.span.Span.{Span}
use Rattle.agg_fold.specs.Standing.{StandsFor}
use Rattle.agg_fold.specs.declared.groups.Groups.{Groups}
use Rattle.condition_spans.specs.Spans.{CutNoBrick}
use Rattle.core_program.specs.Knowing.{Knows}
use Rattle.core_events.specs.Clients.{state_from_calls}
use Rattle.core_events.specs.Events.{Opening, ClientCall}
use Rattle.core_program.specs.CoreFits.{CoreEntry}
use Rattle.core_serial.specs.Queries.{HasAnswered, rows_fetched}
use Rattle.cube_core.specs.declared.cell.CoreCell.{CoreCell}
use Rattle.cube_core.specs.declared.jobs.JobAnswer.{JobAnswer}
use Rattle.cube_core.specs.declared.shard.ShardCall.{ShardCall}
use Rattle.job_groups.specs.AskedEach.{HasMore}
use Rattle.job_groups.specs.EachPosted.{LearnsOfEach}
use Rattle.linked_shards.specs.CellShards.{CoreShardStands}
use Rattle.linked_shards.specs.declared.cell.CoreShard.{CoreShard}
use Rattle.session_snapshots.specs.KnownHolds.{HoldsSpoiledWriter, HoldsWriter}
use Rattle.session_groups.specs.declared.deletions.WriteEnd.{WriteEnd}
use Rattle.session_groups.specs.declared.deletions.WriteEnd.TheVariants as end
use Rattle.shard_events.specs.ShardsInRuns.{FitsQuery, FitsShard, IsShapeInRun, ShardAnswerSays}

module _ (session : ℕ) where
  -- The query is one of a cube that the session knows, and comes with the cube's shape.
  pub record MayQuery (shape : CubeShape) (query : BoundQuery) (o : Opening) (calls : List ClientCall) : Type 0 where
    pub fits : FitsQuery o shape query
    pub there : query.cube < (state_from_calls o session calls).cubes

  -- The box is one of a cube that the session knows, comes with the cube's shape, and cuts no brick.
  pub record MayDelete (cube : ℕ) (shape : CubeShape) (box : Span) (o : Opening) (calls : List ClientCall)
      : Type 0 where
    pub of_run : IsShapeInRun o cube shape
    pub there : cube < (state_from_calls o session calls).cubes
    pub as_many : length box.parts ≡ length shape.shape.sizes
    pub sound : All IsSoundPart box.parts
    pub whole : CutNoBrick shape.shape.sizes box.parts

  -- The session has the answers of all shards to the query, and groups stand for the rows that these found.
  pub record HasFoundRows (query : BoundQuery) (snapshot : Snapshot) (groups : Groups) (o : Opening)
      (calls : List ClientCall) : Type 0 where
    pub answered : HasAnswered o.shards query snapshot (state_from_calls o session calls).group
    pub stands : StandsFor query (rows_fetched (state_from_calls o session calls).group.answers) groups

module _ (cells : List (CoreCell CoreShard)) (caller session : ℕ) where
  -- What the session knows by its own calls, over shards.
  abbrev pub KnowsOfShards : List CoreEntry → (Opening → List ClientCall → Type 0) → Type 0
  KnowsOfShards own P = Knows FitsShard CoreShardStands ShardAnswerSays cells caller session own P

  -- Each of so many shards was asked by the call and has answered.
  pub record HasAskedAll (shards : ℕ) (c : ShardCall) (own now : List CoreEntry) : Type 0 where
    pub more : HasMore own now
    pub answers : List JobAnswer
    pub each : length answers ≡ shards
    pub learns : LearnsOfEach FitsShard CoreShardStands ShardAnswerSays cells caller session (replicate shards c)
        answers own now

  -- So it is, or no shard was asked.
  abbrev pub MayHaveAsked : ℕ → ShardCall → List CoreEntry → List CoreEntry → Type 0
  MayHaveAsked shards c own now = (now ≡ own) ⊎ HasAskedAll shards c own now

  -- The session holds this writer, ready or with a write refused.
  abbrev pub HoldsOpenWriter : List CoreEntry → Snapshot → Type 0
  HoldsOpenWriter own s = HoldsWriter FitsShard CoreShardStands ShardAnswerSays cells caller session own s
      ⊎ HoldsSpoiledWriter FitsShard CoreShardStands ShardAnswerSays cells caller session own s

  -- After a write it holds the writer still, or has spoiled its write.
  abbrev pub HoldsAfterWrite : List CoreEntry → Snapshot → WriteEnd → Type 0
  HoldsAfterWrite own s end.Done = HoldsWriter FitsShard CoreShardStands ShardAnswerSays cells caller session own s
  HoldsAfterWrite own s end.Refused =
      HoldsSpoiledWriter FitsShard CoreShardStands ShardAnswerSays cells caller session own s

-- How a write ended, by whether some shard refused it.
abbrev pub end_by_refusals : Bool → WriteEnd
end_by_refusals true = end.Refused
end_by_refusals false = end.Done
