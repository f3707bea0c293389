-- A shard in a run of the core: which calls fit it, what it is taken for, and for which outcomes of jobs its answers stand.
-- Source: this project's own.
use Rattle.std.specs.Prelude.{◌≡◌, ◌≢◌, ℕ, ◌%◌, ◌^◌, ◌<◌, ◌≤◌, List, [], ◌∷◌, length, All, IfSome, slice_index_or}
use Rattle.std.specs.Option.{option_map_or}
use Rattle.cube_language.specs.declared.decl.TheConstants.{MOST_CUBES}
use Rattle.cube_values.specs.declared.entry.Entry.{Entry}
use Rattle.cube_values.specs.declared.entry.Entry.TheVariants.{Run, Mark}
use Rattle.cube_values.specs.declared.query.BoundQuery.{BoundQuery}
use Rattle.cube_values.specs.declared.row.CodedRow.{CodedRow}
use Rattle.cube_values.specs.declared.shape.CubeShape.{CubeShape}
use Rattle.cube_values.specs.EpochsVector.{IsVector}
use Rattle.cube_values.specs.Queries.{IsSoundQuery}
use Rattle.cube_values.specs.Shapes.{IsSoundCube}
use Rattle.cube_values.specs.Spans.{IsSoundPart}
use Rattle.agg_fold.specs.declared.groups.Groups.{Groups}
use Rattle.agg_fold.specs.Standing.{StandsFor}
use Rattle.brick_address.specs.Addresses.{brick_of}
use Rattle.brick_map.specs.Batches.{IsRowOfCube}
use Rattle.brick_map.specs.Copied.{part_numbered}
use Rattle.condition_spans.specs.Spans.{CutNoBrick}
use Rattle.cube_core.specs.declared.shard.ShardAnswer.{ShardAnswer}
use Rattle.cube_core.specs.declared.shard.ShardAnswer.TheVariants as answer
use Rattle.cube_core.specs.declared.shard.ShardCall.{ShardCall}
use Rattle.cube_core.specs.declared.shard.ShardCall.TheVariants as call
use Rattle.cube_rounds.specs.Bricks.{BrickPart}
use Rattle.cube_rounds.specs.Demands.{AreRising}
use Rattle.core_events.specs.Events.{Opening}
use Rattle.core_events.specs.Jobs.{CoreJob, Scan, Delta, CopyRound, JobOutcome, Done, ShardFull, Found, Compared, Copied, OutOfMemory}
use Rattle.core_events.specs.ShardView.{ShardView}
use Rattle.cube_core.specs.BoardCells.{IsShardLinked}
use Rattle.shard_cell.specs.Shards.{ShardState, HasShapes, shard_brick}
use Rattle.shard_views.specs.Views.{IsWholeContent, ShowAlikeAbove, part_view}
use Rattle.shard_events.specs.ViewedShards.{shard_view}
use Rattle.shard_events.specs.ShardCalls.{CanCallShard, ShardStep}

-- The shape of a cube of the run.
pub record IsShapeInRun (o : Opening) (cube : ℕ) (shape : CubeShape) : Type 0 where
  pub place : cube < MOST_CUBES
  pub sound : IsSoundCube shape
  pub same : shape ≡ o.shapes cube

-- A row is of the shard of a number.
abbrev pub IsRowOfShard : Opening → ℕ → CubeShape → CodedRow → Type 0
IsRowOfShard o number shape row = brick_of shape.shape.sizes row.coords % o.shards ≡ number

-- Rows of a cube are put into the shard of a number.
pub record FitsAppend (o : Opening) (number cube : ℕ) (shape : CubeShape) (rows : List CodedRow) : Type 0 where
  pub of_run : IsShapeInRun o cube shape
  pub of_cube : All (IsRowOfCube shape) rows
  pub of_shard : All (IsRowOfShard o number shape) rows

-- A query comes with the shape of its cube.
pub record FitsQuery (o : Opening) (shape : CubeShape) (query : BoundQuery) : Type 0 where
  pub of_run : IsShapeInRun o query.cube shape
  pub sound : IsSoundQuery query (length shape.shape.sizes) shape.metrics
  pub parts : All IsSoundPart query.span.parts

-- A call fits the shard of a number.
abbrev pub FitsShard : Opening → ℕ → ShardCall → Type 0
FitsShard o number (call.Append cube shape epoch rows) = FitsAppend o number cube shape rows.rows
FitsShard o number (call.DropBox cube shape epoch span) =
    IsShapeInRun o cube shape × All IsSoundPart span.parts × CutNoBrick shape.shape.sizes span.parts
FitsShard o number (call.Scan shape query snapshot) = FitsQuery o shape query
FitsShard o number (call.Delta shape query from to) = FitsQuery o shape query
FitsShard o number c = Unit {0}

-- No run of entries is of epoch 0.
abbrev pub HasNoZeroRun : List Entry → Type 0
HasNoZeroRun [] = Unit {0}
HasNoZeroRun (Run epoch end ∷ entries) = (1 ≤ epoch) × HasNoZeroRun entries
HasNoZeroRun (Mark epoch at ∷ entries) = HasNoZeroRun entries

-- A shard is what a view shows of the bricks of its number, to whoever does not tell the epochs up to LSE apart; it has
-- no rows of other bricks.
pub record StandsInRun (o : Opening) (number lse : ℕ) (shard : ShardState) (view : ShardView) : Type 0 where
  pub limit : shard.limit ≤ 2 ^ 40
  pub shapes : HasShapes o.shapes shard
  pub whole : (cube brick : ℕ) → IsWholeContent (shard_brick shard cube brick)
  pub later : (cube brick : ℕ) → HasNoZeroRun (shard_brick shard cube brick).entries
  pub others : (cube brick : ℕ) → (brick % o.shards ≡ number → ⊥) → (shard_brick shard cube brick).rows ≡ []
  pub own : (cube brick : ℕ) → brick % o.shards ≡ number
      → ShowAlikeAbove lse (shard_view shard cube brick) (view cube brick)

-- Groups stand for rows, of which there are no more than a shard takes.
pub record AreGroupsFor (query : BoundQuery) (rows : List CodedRow) (groups : Groups) : Type 0 where
  pub stands : StandsFor query rows groups
  pub few : length rows ≤ 2 ^ 40

-- What the copies of a round have of each brick.
abbrev pub view_of_copies : List (List BrickPart) → ShardView
view_of_copies copies cube brick = option_map_or part_view (part_numbered brick (slice_index_or copies cube [])) []

-- A part of a brick has entries, and they are a vector over its rows.
pub record IsWholePart (part : BrickPart) : Type 0 where
  pub some : part.entries ≢ []
  pub vector : IsVector part.entries (length part.rows)

-- The copies of a round have a view's bricks: of each cube by rising numbers, each part whole.
pub record ShowCopies (copies : List (List BrickPart)) (view : ShardView) : Type 0 where
  pub same : (cube brick : ℕ) → view cube brick ≡ view_of_copies copies cube brick
  pub rising : (cube : ℕ) → AreRising 0 (slice_index_or copies cube [])
  pub whole : (cube brick : ℕ) → IfSome (part_numbered brick (slice_index_or copies cube [])) IsWholePart

-- The outcomes of a job for which an answer of a shard stands.
abbrev pub ShardAnswerSays : CoreJob → ShardAnswer → JobOutcome → Type 0
ShardAnswerSays job answer.Done outcome = outcome ≡ Done
ShardAnswerSays job (answer.ShardFull rows) outcome = outcome ≡ ShardFull rows
ShardAnswerSays (Scan query snapshot) (answer.Scanned found) (Found rows) = AreGroupsFor query rows found.groups
ShardAnswerSays (Delta query from to) (answer.Changed change) (Compared came went) =
    AreGroupsFor query came change.came.groups × AreGroupsFor query went change.went.groups
ShardAnswerSays (CopyRound from to) (answer.Copied copies) (Copied view) = ShowCopies copies view
ShardAnswerSays job answer.NoMemory outcome = outcome ≡ OutOfMemory
ShardAnswerSays job a outcome = ⊥

-- The calls on a shard are events of the core.
abbrev pub ShardsAreLinked : Type 0
ShardsAreLinked = IsShardLinked CanCallShard ShardStep FitsShard StandsInRun ShardAnswerSays
