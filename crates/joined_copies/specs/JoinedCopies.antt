-- What all shards copied for a round, joined cube by cube.
-- Source: Cubrick (VLDB 2016), shards that each have their own bricks; copies of rounds are this project's own.
use Rattle.std.specs.Prelude.{◌≡◌, ℕ, ◌+◌, ◌%◌, ◌==◌, Bool, List, [], ◌∷◌, ◌++◌, length, filter, slice_get, slice_index_or, Some}
use Rattle.std.specs.List.Sorted.{IsSortedByKey}
use Rattle.std.specs.Ordering.{nat_cmp}
use Rattle.cube_rounds.specs.Bricks.{BrickPart}
use Rattle.cube_rounds.specs.Demands.{AreRising}

-- What a shard copied of each cube.
abbrev pub ShardCopy : Type 0
ShardCopy = List (List BrickPart)

abbrev pub copy_of_cube : ℕ → ShardCopy → List BrickPart
copy_of_cube cube copy = slice_index_or copy cube []

-- The parts of each cube rise by the numbers of their bricks, so that of each brick there is one at most.
abbrev pub AreRisingByCube : ShardCopy → Type 0
AreRisingByCube copy = (cube : ℕ) → AreRising 0 (copy_of_cube cube copy)

-- A part is of a brick of the shard of a number.
abbrev pub is_of_shard : ℕ → ℕ → BrickPart → Bool
is_of_shard shards number part = part.brick % shards == number

abbrev pub parts_of_shard : ℕ → ℕ → List BrickPart → List BrickPart
parts_of_shard shards number parts = filter (is_of_shard shards number) parts

-- Of the first cube, what shards from a number on copied of their own bricks.
abbrev pub parts_from : ℕ → ℕ → List ShardCopy → List BrickPart
parts_from shards number [] = []
parts_from shards number (copy ∷ copies) =
    parts_of_shard shards number (copy_of_cube 0 copy) ++ parts_from shards (number + 1) copies

-- The parts of one brick.
abbrev pub is_of_brick : ℕ → BrickPart → Bool
is_of_brick brick part = part.brick == brick

abbrev pub parts_of_brick_in : ℕ → List BrickPart → List BrickPart
parts_of_brick_in brick parts = filter (is_of_brick brick) parts

-- Parts of a cube's bricks, in the order of their numbers: of each brick those that its own shard copied.
pub record AreJoined (copies : List ShardCopy) (cube : ℕ) (parts : List BrickPart) : Type 0 where
  pub order : IsSortedByKey (λ part. part.brick) nat_cmp parts
  pub each : (brick : ℕ) → parts_of_brick_in brick parts
      ≡ parts_of_brick_in brick (copy_of_cube cube (slice_index_or copies (brick % length copies) []))

-- So for each of some cubes.
abbrev pub AreJoinedByCube : List ShardCopy → List (List BrickPart) → Type 0
AreJoinedByCube copies lists =
    (cube : ℕ) (parts : List BrickPart) → slice_get lists cube ≡ Some parts → AreJoined copies cube parts
