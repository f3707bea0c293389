-- The columns of a brick as its rows, and when they are whole.
use Rattle.std.specs.Prelude.{◌≡◌, ℕ, ◌-◌, ◌≤◌, ℤ, List, length, map, All, IsTrue}
use Rattle.std.specs.List.{AllZip, zip}
use Rattle.brick_columns.specs.Lists.{column_rows, AreColumns}
use Rattle.brick_columns.specs.Rows.{BrickRow, BrickRows, Layout, IsBrickRow, IsWidth, HasShortMetrics}
use Rattle.brick_columns.specs.declared.columns.Columns.TheInside.{Inside}

-- Rows of offsets beside rows of metrics.
abbrev pub brick_rows : List (List ℕ) → List (List ℤ) → List BrickRow
brick_rows offsets metrics = map (λ p. record { offsets = p.0; metrics = p.1 }) (zip offsets metrics)

-- The rows that the columns have.
abbrev pub rows_in : Inside → List BrickRow
rows_in c = brick_rows c.offsets.rows (column_rows c.metrics.items c.rows)

-- What the columns are for.
abbrev pub layout_in : Inside → Layout
layout_in c = record { ranges = c.ranges.items; metrics = length c.metrics.items }

-- The columns as contracts see them.
abbrev pub contract_view : Inside → BrickRows
contract_view c = record { layout = layout_in c; rows = rows_in c; spare = c.room - c.rows }

-- A width for each range, packed offsets and columns of metrics for the rows and the room, and each row is of the
-- layout. Where the columns know that they are short, the metrics of each row are.
pub record IsWhole (c : Inside) : Type 0 where
  pub within : c.rows ≤ c.room
  pub widths : AllZip IsWidth c.ranges.items c.offsets.widths
  pub long : length c.offsets.rows ≡ c.rows
  pub room : c.room ≤ c.offsets.room
  pub metrics : AreColumns c.metrics.items c.rows c.room
  pub sound : All (IsBrickRow (layout_in c)) (rows_in c)
  pub short : IsTrue c.short → All HasShortMetrics (rows_in c)
