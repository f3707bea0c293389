-- A brick as its rows, and when it is whole.
use Rattle.std.specs.Prelude.{◌≡◌, ℕ, ◌+◌, ◌^◌, ◌<◌, ◌≤◌, List, length, map, replicate, All}
use Rattle.std.specs.List.{zip}
use Rattle.cube_values.specs.declared.row.CodedRow.{CodedRow}
use Rattle.cube_values.specs.declared.shape.Size.{Size}
use Rattle.cube_values.specs.EpochsVector.{IsVector}
use Rattle.cube_values.specs.Shapes.{IsSoundShape, bricks_of}
use Rattle.cube_values.specs.declared.shape.TheConstants.{MOST_COLUMNS}
use Rattle.brick_address.specs.Addresses.{coords_of}
use Rattle.brick_columns.specs.Rows.{BrickRow, BrickRows, IsBrickRow, layout_of}
use Rattle.brick_store.specs.Bricks.{Home, BrickState, IsRowOf}
use Rattle.brick_store.specs.declared.brick.Brick.TheInside.{Inside}

-- The first coordinate of a brick in each dimension.
abbrev pub starts_of : List Size → ℕ → List ℕ
starts_of sizes number = coords_of sizes number (replicate (length sizes) 0)

-- The coordinates at offsets from these starts.
abbrev pub coords_at_offsets : List ℕ → List ℕ → List ℕ
coords_at_offsets starts offsets = map (λ p. p.0 + p.1) (zip starts offsets)

-- Coordinates at offsets that 32 bits can count.
abbrev pub HasSmallCoords : List ℕ → BrickRow → Type 0
HasSmallCoords starts row = All (λ coord. coord < 2 ^ 32) (coords_at_offsets starts row.offsets)

-- Rows whose coordinates from these starts can be read, with what the numbers of dimensions and metrics have to be.
pub record HaveCoordsFrom (starts : List ℕ) (columns : BrickRows) : Type 0 where
  pub long : length starts ≡ length columns.layout.ranges
  pub dims : length starts ≤ MOST_COLUMNS
  pub metrics : columns.layout.metrics < 2 ^ 32
  pub fits : All (IsBrickRow columns.layout) columns.rows
  pub small : All (HasSmallCoords starts) columns.rows

-- A row by its offsets, as a row by coordinates.
abbrev pub row_with_coords : List ℕ → BrickRow → CodedRow
row_with_coords starts row = record { coords = coords_at_offsets starts row.offsets; metrics = row.metrics }

-- Which brick it is.
abbrev pub home_in : Inside → Home
home_in b = record { sizes = b.shape.sizes; metrics = b.columns.layout.metrics; number = b.number }

-- The brick as contracts see it.
abbrev pub contract_view : Inside → BrickState
contract_view b = record {
  home = home_in b;
  rows = map (row_with_coords b.starts.items) b.columns.rows;
  entries = b.epochs.entries;
  spare_rows = b.spare_rows;
  spare_entries = b.spare_entries;
}

-- The columns are those of the brick, each row lies in it, and the entries are a vector over the rows. For the spare
-- rows there is memory in the columns, and a bit for each of them and for each row that is there; for the spare
-- entries there is memory in the vector.
pub record IsWhole (b : Inside) : Type 0 where
  pub shape : IsSoundShape b.shape
  pub number : b.number < bricks_of b.shape.sizes
  pub starts : b.starts.items ≡ starts_of b.shape.sizes b.number
  pub layout : b.columns.layout ≡ layout_of b.shape b.columns.layout.metrics
  pub wide : b.columns.layout.metrics < 2 ^ 32
  pub vector : IsVector b.epochs.entries (length b.columns.rows)
  pub columns : b.spare_rows ≤ b.columns.spare
  pub bits : length b.columns.rows + b.spare_rows ≤ b.keep.room
  pub entries : b.spare_entries ≤ b.epochs.spare
  pub sound : All (IsRowOf (home_in b)) (map (row_with_coords b.starts.items) b.columns.rows)
