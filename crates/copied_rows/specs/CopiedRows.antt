-- What a round has copied of a brick, once all shards answered: entries of its epochs, and rows that belong there.
-- Source: Cubrick (VLDB 2016), rounds of a flush and dictionary encoding; that runs and marks are copied is this project's
-- own.
use Rattle.std.specs.Prelude.{◌≡◌, ℕ, ◌≤◌, true, List, [], All}
use Rattle.cube_values.specs.declared.row.CodedRow.{CodedRow}
use Rattle.cube_values.specs.Shapes.{bricks_of}
use Rattle.brick_address.specs.Addresses.{brick_of}
use Rattle.core_events.specs.Cells.{sizes_of_cube}
use Rattle.core_events.specs.Events.{Opening, CoreEvent}
use Rattle.core_events.specs.ShardView.{BrickEntry, epoch_of_entry, is_within_round, rows_appended}
use Rattle.core_rows.specs.RowsOfCubes.{IsCubeRow}

-- A row of the cube, in the brick of its coordinates.
pub record IsPlacedRow (o : Opening) (es : List CoreEvent) (cube brick : ℕ) (row : CodedRow) : Type 0 where
  pub of_cube : IsCubeRow o es cube row
  pub place : brick_of (sizes_of_cube o cube) row.coords ≡ brick

-- The rows that were kept are rows of their cubes.
abbrev pub KeptAreCubeRows : Opening → Type 0
KeptAreCubeRows o = (cube : ℕ) → All (IsCubeRow o [] cube) (o.rows cube)

-- What was copied of a brick, which the cube has.
pub record IsCopiedBrick (o : Opening) (es : List CoreEvent) (from to cube brick : ℕ) (copy : List BrickEntry) : Type 0 where
  pub epochs : All (λ e. is_within_round from to (epoch_of_entry e) ≡ true) copy
  pub rows : All (IsPlacedRow o es cube brick) (rows_appended copy)
  pub others : bricks_of (sizes_of_cube o cube) ≤ brick → copy ≡ []
