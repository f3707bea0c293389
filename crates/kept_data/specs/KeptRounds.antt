-- What rounds keep of cubes and bricks.
-- Source: Cubrick (VLDB 2016) for bricks and dictionaries, AOSI (ICDE 2018) for entries.
use Rattle.std.specs.Prelude.{◌≡◌, ◌≢◌, ℕ, ◌<◌, ◌≤◌, List, [], ◌∷◌, length, All, slice_get, slice_index_or, Some}
use Rattle.cube_values.specs.declared.row.CodedRow.{CodedRow}
use Rattle.cube_values.specs.EpochsVector.{IsVector}
use Rattle.cube_values.specs.Shapes.{bricks_of}
use Rattle.cube_language.specs.declared.decl.Decl.{Decl}
use Rattle.cube_language.specs.Cubes.{sizes_of}
use Rattle.cube_schema.specs.Schemas.{cube_of}
use Rattle.brick_address.specs.Addresses.{LieIn}
use Rattle.cube_rounds.specs.declared.round.RoundCube.{RoundCube}
use Rattle.cube_rounds.specs.declared.round.Round.{Round}
use Rattle.cube_rounds.specs.Bricks.{BrickPart}
use Rattle.cube_rounds.specs.Demands.{DimNames, IsOfEpochs, AreRising}
use Rattle.cube_rounds.specs.KeptRows.{entries_joined, rows_joined}
use Rattle.names_dict.specs.Dictionaries.{IsTextDimension}

-- Rounds lead from one epoch to another: each begins where the one before it ended, and ends later.
abbrev pub RoundsLead : ℕ → List Round → ℕ → Type 0
RoundsLead from [] to = from ≡ to
RoundsLead from (round ∷ rounds) to = (round.from ≡ from) × (from < round.epoch) × RoundsLead round.epoch rounds to

-- A row of a brick of a cube: its coordinates lie in the brick, it has a number for each metric, and a coordinate of a
-- dimension of texts is the place of a kept name.
pub record IsKeptRow (cube : Decl) (lists : DimNames) (brick : ℕ) (row : CodedRow) : Type 0 where
  pub coords : LieIn (sizes_of cube.dims) brick row.coords
  pub metrics : length row.metrics ≡ length cube.metrics
  pub names : (dim coord : ℕ) → IsTextDimension (cube_of cube) dim → slice_get row.coords dim ≡ Some coord
      → coord < length (slice_index_or lists dim [])

-- What a round has of a brick of a cube: entries of its epochs, a vector over the rows, and rows of the brick.
pub record IsKeptPart (cube : Decl) (lists : DimNames) (round : Round) (b : BrickPart) : Type 0 where
  pub number : b.brick < bricks_of (sizes_of cube.dims)
  pub some : b.entries ≢ []
  pub vector : IsVector b.entries (length b.rows)
  pub epochs : All (IsOfEpochs round.from round.epoch) b.entries
  pub rows : All (IsKeptRow cube lists b.brick) b.rows

-- What a round has of a cube with these names lies in it.
pub record LiesInCube (cube : Decl) (lists : DimNames) (round : Round) (part : RoundCube) : Type 0 where
  pub rising : AreRising 0 part.bricks
  pub bricks : All (IsKeptPart cube lists round) part.bricks

-- What a round has lies in the first of these cubes, each by its place.
pub record LieInCubes (cubes : List Decl) (names : List DimNames) (round : Round) : Type 0 where
  pub few : length round.cubes ≤ length cubes
  pub each : (place : ℕ) (cube : Decl) (lists : DimNames) (part : RoundCube) → slice_get cubes place ≡ Some cube
      → slice_get names place ≡ Some lists → slice_get round.cubes place ≡ Some part
      → LiesInCube cube lists round part

-- What rounds up to an epoch have of a brick of a cube, joined: entries of epochs above 0, a vector over the rows, and
-- rows of the brick.
pub record IsKeptBrick (cube : Decl) (lists : DimNames) (brick epoch : ℕ) (parts : List BrickPart) : Type 0 where
  pub number : parts ≢ [] → brick < bricks_of (sizes_of cube.dims)
  pub vector : IsVector (entries_joined 0 parts) (length (rows_joined parts))
  pub epochs : All (IsOfEpochs 0 epoch) (entries_joined 0 parts)
  pub rows : All (IsKeptRow cube lists brick) (rows_joined parts)
