-- Rows of a cube in a run.
-- Source: Cubrick (VLDB 2016), dictionary encoding of text dimensions.
use Rattle.std.specs.Prelude.{◌≡◌, ℕ, ◌<◌, List, length, slice_get, Some}
use Rattle.cube_values.specs.declared.row.CodedRow.{CodedRow}
use Rattle.brick_address.specs.Addresses.{AreCoords}
use Rattle.names_dict.specs.Dictionaries.{IsTextDimension}
use Rattle.core_events.specs.Events.{Opening, CoreEvent}
use Rattle.core_events.specs.Cells.{sizes_of_cube, dictionary_of}

-- A row has coordinates of the cube and a number for each of its metrics, and a coordinate of a text dimension is the
-- number of a name that is there.
pub record IsCubeRow (o : Opening) (es : List CoreEvent) (cube : ℕ) (row : CodedRow) : Type 0 where
  pub coords : AreCoords (sizes_of_cube o cube) row.coords
  pub metrics : length row.metrics ≡ (o.shapes cube).metrics
  pub names : (dim coord : ℕ) → IsTextDimension (o.shapes cube) dim → slice_get row.coords dim ≡ Some coord
      → coord < length (dictionary_of o cube dim es).names
