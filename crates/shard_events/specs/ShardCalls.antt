-- The calls of the core on a shard as steps: what each asks of the shard, and what it answers and makes of it.
-- Source: Cubrick (VLDB 2016), shards of bricks; AOSI (ICDE 2018), append, delete, rollback and purge of a partition.
use Rattle.std.specs.Prelude.{◌≡◌, ℕ, List, [], length, All, slice_index_or}
use Rattle.cube_values.specs.declared.query.BoundQuery.{BoundQuery}
use Rattle.cube_values.specs.declared.row.CodedRow.{CodedRow}
use Rattle.cube_values.specs.declared.shape.CubeShape.{CubeShape}
use Rattle.cube_values.specs.Queries.{IsSoundQuery}
use Rattle.cube_values.specs.Spans.{IsSoundPart}
use Rattle.agg_fold.specs.declared.groups.Groups.{Groups}
use Rattle.condition_spans.specs.Spans.{CutNoBrick}
use Rattle.brick_map.specs.Batches.{IsRowOfCube}
use Rattle.brick_map.specs.Births.{content_purged, content_without}
use Rattle.cube_core.specs.declared.shard.ShardAnswer.{ShardAnswer}
use Rattle.cube_core.specs.declared.shard.ShardAnswer.TheVariants as answer
use Rattle.cube_core.specs.declared.shard.ShardCall.{ShardCall}
use Rattle.cube_core.specs.declared.shard.ShardCall.TheVariants as call
use Rattle.shard_cell.specs.Answers.{HasSameShard, brick_after_append, brick_after_drop, brick_rows_apart, brick_rows_shown, reader_at}
use Rattle.shard_cell.specs.Shards.{ShardState, HasShapeAt, KeepsShapes, KeepsShapesWith, cube_at, shard_brick}
use Rattle.shard_cell.specs.Slots.{AreGroupsOf, IsSlotCopy}

-- A query that comes with the shape of its cube.
pub record CanAskShard (shard : ShardState) (shape : CubeShape) (query : BoundQuery) : Type 0 where
  pub shape_known : HasShapeAt shape query.cube shard
  pub sound : IsSoundQuery query (length shape.shape.sizes) shape.metrics
  pub parts : All IsSoundPart query.span.parts

-- The shard can take the call.
abbrev pub CanCallShard : ShardState → ShardCall → Type 0
CanCallShard shard (call.Append cube shape epoch rows) = HasShapeAt shape cube shard × All (IsRowOfCube shape) rows.rows
CanCallShard shard (call.DropBox cube shape epoch span) =
    HasShapeAt shape cube shard × All IsSoundPart span.parts × CutNoBrick shape.shape.sizes span.parts
CanCallShard shard (call.Scan shape query snapshot) = CanAskShard shard shape query
CanCallShard shard (call.Delta shape query from to) = CanAskShard shard shape query
CanCallShard shard c = Unit {0}

-- Groups stand for the rows of a query's cube that a shard gives, brick by brick.
abbrev pub HasGroupsOf : ShardState → CubeShape → BoundQuery → (ℕ → List CodedRow) → Groups → Type 0
HasGroupsOf shard shape query each groups = AreGroupsOf query shape.shape.sizes shard.limit each groups

-- Each cube that had the shape that is known of it still has, and the shard takes as many rows; so after a call that came
-- with the shape of a cube.
pub record KeepsSettingsWith (cube : ℕ) (shape : CubeShape) (old new : ShardState) : Type 0 where
  pub shapes : KeepsShapesWith cube shape old new
  pub limit : new.limit ≡ old.limit

pub record KeepsSettings (old new : ShardState) : Type 0 where
  pub shapes : KeepsShapes old new
  pub limit : new.limit ≡ old.limit

-- The shard before a call, the call, its answer, and the shard that it leaves. Where memory is wanted no brick has other
-- rows or marks than before.
abbrev pub ShardStep : ShardState → ShardCall → ShardAnswer → ShardState → Type 0
ShardStep old (call.Append cube shape epoch rows) answer.Done new =
    KeepsSettingsWith cube shape old new × ((other number : ℕ)
    → shard_brick new other number ≡ brick_after_append shape.shape.sizes cube epoch rows.rows old other number)
ShardStep old (call.Append cube shape epoch rows) (answer.ShardFull full) new =
    KeepsSettingsWith cube shape old new × HasSameShard old new
ShardStep old (call.Append cube shape epoch rows) answer.NoMemory new =
    KeepsSettingsWith cube shape old new × HasSameShard old new
ShardStep old (call.DropBox cube shape epoch span) answer.Done new =
    KeepsSettingsWith cube shape old new × ((other number : ℕ)
    → shard_brick new other number ≡ brick_after_drop shape.shape.sizes cube epoch span old other number)
ShardStep old (call.DropBox cube shape epoch span) answer.NoMemory new =
    KeepsSettingsWith cube shape old new × HasSameShard old new
ShardStep old (call.Scan shape query snapshot) (answer.Scanned found) new =
    (new ≡ old) × HasGroupsOf old shape query (λ number. brick_rows_shown query.span snapshot
    (shard_brick old query.cube number)) found.groups
ShardStep old (call.Scan shape query snapshot) answer.NoMemory new = new ≡ old
ShardStep old (call.Delta shape query from to) (answer.Changed change) new =
    (new ≡ old) × HasGroupsOf old shape query (λ number. brick_rows_apart query.span (reader_at to) (reader_at from)
    (shard_brick old query.cube number)) change.came.groups
    × HasGroupsOf old shape query (λ number. brick_rows_apart query.span (reader_at from) (reader_at to)
    (shard_brick old query.cube number)) change.went.groups
ShardStep old (call.Delta shape query from to) answer.NoMemory new = new ≡ old
ShardStep old (call.Rollback epoch) answer.Done new =
    KeepsSettings old new × ((cube number : ℕ)
    → shard_brick new cube number ≡ content_without epoch (shard_brick old cube number))
ShardStep old (call.Purge epoch) answer.Done new =
    KeepsSettings old new × ((cube number : ℕ)
    → shard_brick new cube number ≡ content_purged epoch (shard_brick old cube number))
ShardStep old (call.CopyRound from to) (answer.Copied copied) new =
    (new ≡ old) × ((cube : ℕ) → IsSlotCopy from to (cube_at old cube) (slice_index_or copied cube []))
ShardStep old (call.CopyRound from to) answer.NoMemory new = new ≡ old
ShardStep old c a new = ⊥
