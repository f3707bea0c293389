-- Parts of a round that a store has bytes for.
-- Source: this project's own.
use Rattle.std.specs.Prelude.{IsUtf8}
use Rattle.std.specs.List.{AllByRecursion}
use Rattle.cube_rounds.specs.Bricks.{BrickPart}
use Rattle.cube_rounds.specs.declared.round.RoundCube.{RoundCube}
use Rattle.following_rounds.specs.FollowingRounds.{HasStorableValues}

-- The names of a cube are texts.
abbrev pub HasTexts : RoundCube → Type 0
HasTexts part = AllByRecursion (AllByRecursion IsUtf8) part.names

-- The values of a brick's rows, and of a cube's bricks.

abbrev pub HasStorableRows : BrickPart → Type 0
HasStorableRows brick = AllByRecursion HasStorableValues brick.rows

abbrev pub HasStorableBricks : RoundCube → Type 0
HasStorableBricks part = AllByRecursion HasStorableRows part.bricks
