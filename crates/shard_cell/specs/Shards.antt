-- A shard as contracts see it: for each cube, by its place, the bricks that the shard has of it, there or not.
-- Source: Cubrick (VLDB 2016), shards of bricks, each with one thread.
use Rattle.std.specs.Prelude.{◌≡◌, ℕ, ◌^◌, ◌<◌, ◌≤◌, List, length, sum_by, Option, None, slice_index_or}
use Rattle.cube_values.specs.declared.shape.CubeShape.{CubeShape}
use Rattle.cube_values.specs.Shapes.{IsSoundCube}
use Rattle.cube_language.specs.declared.decl.TheConstants.{MOST_CUBES}
use Rattle.brick_map.specs.declared.deletion.Deletion.{Deletion}
use Rattle.brick_map.specs.Births.{BrickContent, CubeState}
use Rattle.shard_cell.specs.declared.shard.Shard.TheInside.{Inside}
use Rattle.shard_cell.specs.Slots.{HasShape, slot_brick, slot_bricks, slot_rows, slot_waits}

-- The cubes by their places, and how many rows the shard takes.
pub record ShardState : Type 0 where
  pub cubes : List (Option CubeState)
  pub limit : ℕ

-- The cube at a place.
abbrev pub cube_at : ShardState → ℕ → Option CubeState
cube_at shard cube = slice_index_or shard.cubes cube None

-- What the brick of a number of a cube has, there or not.
abbrev pub shard_brick : ShardState → ℕ → ℕ → BrickContent
shard_brick shard cube number = slot_brick (cube_at shard cube) number

-- How many rows and bricks the shard has.
abbrev pub shard_rows : ShardState → ℕ
shard_rows shard = sum_by slot_rows shard.cubes

abbrev pub shard_bricks : ShardState → ℕ
shard_bricks shard = sum_by slot_bricks shard.cubes

-- The deletions that wait for the bricks of a cube.
abbrev pub shard_waits : ShardState → ℕ → List Deletion
shard_waits shard cube = slot_waits (cube_at shard cube)

-- Each cube has the shape that is known of it.
abbrev pub HasShapes : (ℕ → CubeShape) → ShardState → Type 0
HasShapes shapes shard = (cube : ℕ) → HasShape (shapes cube) (cube_at shard cube)

-- A call on a cube comes with the cube's shape.
pub record HasShapeAt (shape : CubeShape) (cube : ℕ) (shard : ShardState) : Type 0 where
  pub place : cube < MOST_CUBES
  pub sound : IsSoundCube shape
  pub same : HasShape shape (cube_at shard cube)

-- Where each cube had the shape that is known of it, it still has.
abbrev pub KeepsShapes : ShardState → ShardState → Type 0
KeepsShapes old new = (shapes : ℕ → CubeShape) → HasShapes shapes old → HasShapes shapes new

-- So after a call that came with the shape of a cube.
abbrev pub KeepsShapesWith : ℕ → CubeShape → ShardState → ShardState → Type 0
KeepsShapesWith cube shape old new =
    (shapes : ℕ → CubeShape) → shapes cube ≡ shape → HasShapes shapes old → HasShapes shapes new

-- The shard as contracts see it.
abbrev pub shard_state : Inside → ShardState
shard_state s = record { cubes = s.cubes.items; limit = s.limit }

-- There is a place for each cube, and the rows are counted and within the limit.
pub record IsShardWhole (s : Inside) : Type 0 where
  pub places : length s.cubes.items ≡ MOST_CUBES
  pub rows : s.rows ≡ sum_by slot_rows s.cubes.items
  pub few : s.rows ≤ s.limit
  pub limit : s.limit ≤ 2 ^ 40
