-- Rounds whose parts of one cube lie in the cube's shape.
-- Source: Cubrick (VLDB 2016) for bricks, AOSI (ICDE 2018) for the epochs of rounds.
use Rattle.std.specs.Prelude.{◌≡◌, ℕ, ◌<◌, ◌≤◌, List, [], ◌∷◌, length, slice_get}
use Rattle.std.specs.List.{flat_map, AllByRecursion}
use Rattle.std.specs.Option.{option_map_or}
use Rattle.cube_values.specs.declared.row.CodedRow.{CodedRow}
use Rattle.cube_values.specs.declared.shape.CubeShape.{CubeShape}
use Rattle.cube_values.specs.EpochsVector.{IsVector}
use Rattle.cube_values.specs.Shapes.{bricks_of}
use Rattle.brick_address.specs.Addresses.{LieIn}
use Rattle.cube_rounds.specs.declared.round.Round.{Round}
use Rattle.cube_rounds.specs.Bricks.{BrickPart}
use Rattle.cube_rounds.specs.Demands.{AreRising, IsOfEpochs}

-- What a round has of the bricks of the cube at a place.
abbrev pub parts_of_cube : ℕ → Round → List BrickPart
parts_of_cube place round = option_map_or (λ cube. cube.bricks) (slice_get round.cubes place) []

-- What rounds have of the cube's bricks, in order.
abbrev pub parts_of_rounds : ℕ → List Round → List BrickPart
parts_of_rounds place rounds = flat_map (parts_of_cube place) rounds

-- A row lies in a brick of the cube, with a number for each metric.
pub record LiesInBrick (shape : CubeShape) (brick : ℕ) (row : CodedRow) : Type 0 where
  pub coords : LieIn shape.shape.sizes brick row.coords
  pub metrics : length row.metrics ≡ shape.metrics

-- A part of a brick of the cube: its entries are of the epochs above one up to another, and its rows lie in the brick.
pub record FitsPart (shape : CubeShape) (from epoch : ℕ) (part : BrickPart) : Type 0 where
  pub number : part.brick < bricks_of shape.shape.sizes
  pub vector : IsVector part.entries (length part.rows)
  pub epochs : AllByRecursion (IsOfEpochs from epoch) part.entries
  pub rows : AllByRecursion (LiesInBrick shape part.brick) part.rows

-- A round ends no earlier than the one before it, and has of each brick of the cube one part at most, which fits.
pub record FitsShape (shape : CubeShape) (place from : ℕ) (round : Round) : Type 0 where
  pub later : from ≤ round.epoch
  pub rising : AreRising 0 (parts_of_cube place round)
  pub parts : AllByRecursion (FitsPart shape from round.epoch) (parts_of_cube place round)

-- Rounds behind an epoch, each behind that of the one before it.
abbrev pub RoundsFit : CubeShape → ℕ → ℕ → List Round → Type 0
RoundsFit shape place from [] = Unit {0}
RoundsFit shape place from (round ∷ rounds) =
    FitsShape shape place from round × RoundsFit shape place round.epoch rounds
