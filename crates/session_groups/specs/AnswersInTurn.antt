-- Answers of shards one after the other, and the outcomes for which they stand.
-- Source: Cubrick (VLDB 2016), partial results of shards, and their merging.
use Rattle.std.specs.Prelude.{◌≡◌, Bool, true, false, List, [], ◌∷◌, ◌++◌}
use Rattle.std.specs.List.{list_any}
use Rattle.cube_values.specs.declared.query.BoundQuery.{BoundQuery}
use Rattle.cube_values.specs.declared.row.CodedRow.{CodedRow}
use Rattle.agg_fold.specs.Standing.{Adds, HasRoom, StandsFor}
use Rattle.agg_fold.specs.declared.groups.Groups.{Groups}
use Rattle.core_events.specs.Jobs.{JobOutcome, Found, is_refusal}
use Rattle.core_serial.specs.Queries.{rows_of_answer}
use Rattle.cube_core.specs.declared.jobs.FlushAnswer.{FlushAnswer}
use Rattle.cube_core.specs.declared.jobs.FlushAnswer.TheVariants as flush
use Rattle.cube_core.specs.declared.jobs.JobAnswer.{JobAnswer}
use Rattle.cube_core.specs.declared.jobs.JobAnswer.TheVariants as reply
use Rattle.cube_core.specs.declared.shard.ShardAnswer.{ShardAnswer}
use Rattle.cube_core.specs.declared.shard.ShardAnswer.TheVariants as answer
use Rattle.shard_events.specs.ShardsInRuns.{AreGroupsFor}

-- A relation holds of each answer and the outcome at its place.
abbrev pub HoldInTurn : (JobAnswer → JobOutcome → Type 0) → List JobAnswer → List JobOutcome → Type 0
HoldInTurn Stands [] [] = Unit {0}
HoldInTurn Stands (said ∷ answers) (outcome ∷ outcomes) = Stands said outcome × HoldInTurn Stands answers outcomes
HoldInTurn Stands answers outcomes = ⊥

-- The rows that outcomes have, joined.
abbrev pub rows_of_outcomes : List JobOutcome → List CodedRow
rows_of_outcomes [] = []
rows_of_outcomes (outcome ∷ outcomes) = rows_of_answer outcome ++ rows_of_outcomes outcomes

-- A partial stands for rows that were found.
abbrev pub StandsForFound : BoundQuery → JobAnswer → JobOutcome → Type 0
StandsForFound query (reply.Shard (answer.Scanned found)) (Found rows) = AreGroupsFor query rows found.groups
StandsForFound query (reply.Shard (answer.Scanned found)) outcome = ⊥
StandsForFound query said outcome = Unit {0}

-- The answer is a partial, which can be merged into groups, and then is.

abbrev pub HasRoomFor : BoundQuery → Groups → ShardAnswer → Type 0
HasRoomFor query groups (answer.Scanned found) = HasRoom query found.groups.rows groups × HasRoom query 0 found.groups
HasRoomFor query groups said = Unit {0}

abbrev pub HasRoomForAnswer : BoundQuery → Groups → JobAnswer → Type 0
HasRoomForAnswer query groups (reply.Shard said) = HasRoomFor query groups said
HasRoomForAnswer query groups said = Unit {0}

abbrev pub AddsFound : BoundQuery → ShardAnswer → Groups → Groups → Type 0
AddsFound query (answer.Scanned found) old new = Adds query found.groups old new
AddsFound query said old new = ⊥

abbrev pub AddsAnswer : BoundQuery → JobAnswer → Groups → Groups → Type 0
AddsAnswer query (reply.Shard said) old new = AddsFound query said old new
AddsAnswer query said old new = ⊥

-- There are outcomes for which the answers to a query stand.
pub record HaveFound (query : BoundQuery) (answers : List JobAnswer) : Type 0 where
  pub outcomes : List JobOutcome
  pub stand : HoldInTurn (StandsForFound query) answers outcomes

-- Whichever outcomes these are: none is a refusal, and groups stand for all their rows.
pub record AreMerged (query : BoundQuery) (groups : Groups) (outcomes : List JobOutcome) : Type 0 where
  pub none : list_any is_refusal outcomes ≡ false
  pub stands : StandsFor query (rows_of_outcomes outcomes) groups

abbrev pub MergeAll : BoundQuery → List JobAnswer → Groups → Type 0
MergeAll query answers groups =
    (outcomes : List JobOutcome) → HoldInTurn (StandsForFound query) answers outcomes → AreMerged query groups outcomes

-- A job was not done.
abbrev pub is_said_undone : ShardAnswer → Bool
is_said_undone answer.Done = false
is_said_undone said = true

abbrev pub is_flush_undone : FlushAnswer → Bool
is_flush_undone flush.Done = false
is_flush_undone said = true

abbrev pub is_undone : JobAnswer → Bool
is_undone (reply.Shard said) = is_said_undone said
is_undone (reply.Flush said) = is_flush_undone said
