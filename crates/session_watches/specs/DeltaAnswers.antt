-- Answers of shards to a delta, one after the other, and the outcomes for which they stand.
-- Source: Cubrick (VLDB 2016), merging of partial results; materialized views kept by their changes (Gupta, Mumick,
-- Subrahmanian, SIGMOD 1993).
use Rattle.std.specs.Prelude.{◌≡◌, ℕ, ◌*◌, ◌^◌, ◌≤◌, false, List, [], ◌∷◌, ◌++◌, length}
use Rattle.std.specs.List.{list_any}
use Rattle.cube_values.specs.declared.query.BoundQuery.{BoundQuery}
use Rattle.cube_values.specs.declared.row.CodedRow.{CodedRow}
use Rattle.agg_fold.specs.Standing.{Adds, HasRoom, StandsFor}
use Rattle.agg_fold.specs.declared.groups.Groups.{Groups}
use Rattle.core_serial.specs.Deltas.{rows_that_came, rows_that_went}
use Rattle.core_events.specs.Jobs.{JobOutcome, Compared, is_refusal}
use Rattle.cube_core.specs.declared.jobs.JobAnswer.{JobAnswer}
use Rattle.cube_core.specs.declared.jobs.JobAnswer.TheVariants as reply
use Rattle.cube_core.specs.declared.shard.ShardAnswer.{ShardAnswer}
use Rattle.cube_core.specs.declared.shard.ShardAnswer.TheVariants as answer
use Rattle.session_groups.specs.AnswersInTurn.{HoldInTurn}
use Rattle.shard_events.specs.ShardsInRuns.{AreGroupsFor}
use Rattle.standing_query.specs.declared.change.Change.{Change}

-- The rows that came by outcomes, and those that went, joined.
abbrev pub rows_come : List JobOutcome → List CodedRow
rows_come [] = []
rows_come (outcome ∷ outcomes) = rows_that_came outcome ++ rows_come outcomes

abbrev pub rows_gone : List JobOutcome → List CodedRow
rows_gone [] = []
rows_gone (outcome ∷ outcomes) = rows_that_went outcome ++ rows_gone outcomes

-- A change stands for the rows that came and those that went.
abbrev pub StandsForCompared : BoundQuery → JobAnswer → JobOutcome → Type 0
StandsForCompared query (reply.Shard (answer.Changed change)) (Compared came went) =
    AreGroupsFor query came change.came.groups × AreGroupsFor query went change.went.groups
StandsForCompared query (reply.Shard (answer.Changed change)) outcome = ⊥
StandsForCompared query said outcome = Unit {0}

-- The answer is a change, which can be merged into another, and then is.

abbrev pub HasRoomToMerge : BoundQuery → Groups → Groups → Type 0
HasRoomToMerge query other groups = HasRoom query other.rows groups × HasRoom query 0 other

abbrev pub HasRoomForSaid : BoundQuery → Change → ShardAnswer → Type 0
HasRoomForSaid query whole (answer.Changed change) =
    HasRoomToMerge query change.came.groups whole.came.groups × HasRoomToMerge query change.went.groups whole.went.groups
HasRoomForSaid query whole said = Unit {0}

abbrev pub HasRoomForChange : BoundQuery → Change → JobAnswer → Type 0
HasRoomForChange query whole (reply.Shard said) = HasRoomForSaid query whole said
HasRoomForChange query whole said = Unit {0}

abbrev pub AddsBoth : BoundQuery → Change → Change → Change → Type 0
AddsBoth query change old new =
    Adds query change.came.groups old.came.groups new.came.groups × Adds query change.went.groups old.went.groups new.went.groups

abbrev pub AddsSaid : BoundQuery → ShardAnswer → Change → Change → Type 0
AddsSaid query (answer.Changed change) old new = AddsBoth query change old new
AddsSaid query said old new = ⊥

abbrev pub AddsChange : BoundQuery → JobAnswer → Change → Change → Type 0
AddsChange query (reply.Shard said) old new = AddsSaid query said old new
AddsChange query said old new = ⊥

-- There are outcomes for which the answers to a delta stand.
pub record HaveCompared (query : BoundQuery) (answers : List JobAnswer) : Type 0 where
  pub outcomes : List JobOutcome
  pub stand : HoldInTurn (StandsForCompared query) answers outcomes

-- Groups stand for rows, of which there are no more than so many shards take.
pub record AreGroupsOfShards (query : BoundQuery) (shards : ℕ) (rows : List CodedRow) (groups : Groups) : Type 0 where
  pub stands : StandsFor query rows groups
  pub few : length rows ≤ shards * 2 ^ 40

-- Whichever outcomes these are: none is a refusal, and the change stands for all rows that came and all that went.
pub record AreMergedChanges (query : BoundQuery) (change : Change) (outcomes : List JobOutcome) : Type 0 where
  pub none : list_any is_refusal outcomes ≡ false
  pub came : AreGroupsOfShards query (length outcomes) (rows_come outcomes) change.came.groups
  pub went : AreGroupsOfShards query (length outcomes) (rows_gone outcomes) change.went.groups

abbrev pub MergeAllChanges : BoundQuery → List JobAnswer → Change → Type 0
MergeAllChanges query answers change =
    (outcomes : List JobOutcome) → HoldInTurn (StandsForCompared query) answers outcomes
    → AreMergedChanges query change outcomes
