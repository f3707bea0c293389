-- The bricks of one cube on a shard, where anything of the cube came. Of each number there is what the brick has; a
-- brick that is not there, and each brick of a cube of which nothing came, is seen as it would be born now.
use Rattle.std.specs.Prelude.{◌≡◌, ℕ, ◌<◌, ◌≤◌, Bool, List, [], length, filter, Option, IfSome, IsSomeAnd}
use Rattle.std.specs.Option.{option_map_or}
use Rattle.cube_values.specs.declared.row.CodedRow.{CodedRow}
use Rattle.cube_values.specs.declared.query.BoundQuery.{BoundQuery}
use Rattle.cube_values.specs.declared.shape.CubeShape.{CubeShape}
use Rattle.cube_values.specs.declared.shape.Size.{Size}
use Rattle.cube_values.specs.Shapes.{bricks_of}
use Rattle.agg_fold.specs.declared.groups.Groups.{Groups}
use Rattle.agg_fold.specs.Standing.{StandsFor}
use Rattle.brick_map.specs.declared.deletion.Deletion.{Deletion}
use Rattle.cube_rounds.specs.Bricks.{BrickPart}
use Rattle.cube_rounds.specs.Demands.{AreRising}
use Rattle.brick_map.specs.Copied.{IsCopied, part_numbered, round_part_with}
use Rattle.brick_map.specs.Births.{BrickContent, CubeState, brick_in, cube_sizes, rows_count, rows_of_brick}

-- What a brick has of which nothing came.
abbrev pub untouched : BrickContent
untouched = record { rows = []; entries = [] }

-- What the cube's brick of a number has, there or not.
abbrev pub slot_brick : Option CubeState → ℕ → BrickContent
slot_brick slot number = option_map_or (λ cube. brick_in cube number) slot untouched

-- How many rows and bricks there are of the cube, and the deletions that wait for its bricks.
abbrev pub slot_rows : Option CubeState → ℕ
slot_rows slot = option_map_or (λ cube. rows_count cube.bricks) slot 0

abbrev pub slot_bricks : Option CubeState → ℕ
slot_bricks slot = option_map_or (λ cube. length cube.bricks) slot 0

abbrev pub slot_waits : Option CubeState → List Deletion
slot_waits slot = option_map_or (λ cube. cube.recent) slot []

-- The cube has this shape, where anything of it came.
abbrev pub HasShape : CubeShape → Option CubeState → Type 0
HasShape shape slot = IfSome slot (λ cube. cube.shape ≡ shape)

-- The cube has the same rows and bricks, there or not, and the same deletions wait.
pub record HasSameSlot (old new : Option CubeState) : Type 0 where
  pub bricks : (number : ℕ) → slot_brick new number ≡ slot_brick old number
  pub rows : slot_rows new ≡ slot_rows old
  pub waits : slot_waits new ≡ slot_waits old

-- Each brick, there or not, is changed, the deletions of a test still wait, and there are no more rows than before.
pub record IsSlotAfter (change : BrickContent → BrickContent) (stays : Deletion → Bool) (old new : Option CubeState)
    : Type 0 where
  pub bricks : (number : ℕ) → slot_brick new number ≡ change (slot_brick old number)
  pub waits : slot_waits new ≡ filter stays (slot_waits old)
  pub fewer : slot_rows new ≤ slot_rows old
  pub shape : (shape : CubeShape) → HasShape shape old → HasShape shape new

-- Groups stand for rows, which are no more than the cube has, and are brick by brick those that a function gives.
pub record AreGroupsOf (query : BoundQuery) (sizes : List Size) (most : ℕ) (each : ℕ → List CodedRow)
    (groups : Groups) : Type 0 where
  pub rows : List CodedRow
  pub stands : StandsFor query rows groups
  pub few : length rows ≤ most
  pub by_brick : (number : ℕ) → rows_of_brick sizes number rows ≡ each number

-- What a round has of the cube: the parts rise, of each number there is what the round has of the brick, and each is of a
-- brick that the cube has.
pub record IsSlotCopy (from to : ℕ) (slot : Option CubeState) (parts : List BrickPart) : Type 0 where
  pub rising : AreRising 0 parts
  pub each : (number : ℕ) → let c = slot_brick slot number in
      IsCopied (round_part_with from to number c) c.rows (part_numbered number parts)
  pub there : (number : ℕ) → IfSome (part_numbered number parts)
      (λ part. IsSomeAnd slot (λ cube. number < bricks_of (cube_sizes cube)))
