-- A brick as contracts see it: rows in order, and the vector of epochs that says who appended each of them and
-- where deletions stand.
-- Source: Cubrick (VLDB 2016), bricks; AOSI (ICDE 2018), a vector of epochs in each brick.
use Rattle.std.specs.Prelude.{◌≡◌, ℕ, List, length}
use Rattle.cube_values.specs.declared.entry.Entry.{Entry}
use Rattle.cube_values.specs.declared.row.CodedRow.{CodedRow}
use Rattle.cube_values.specs.declared.shape.Size.{Size}
use Rattle.brick_address.specs.Addresses.{LieIn}

-- Which brick it is: the dimensions of its cube, the number of metrics of a row, and the brick's number.
pub record Home : Type 0 where
  pub sizes : List Size
  pub metrics : ℕ
  pub number : ℕ

-- A brick: its rows, the entries of their vector of epochs, and how many more rows and entries there is memory for.
pub record BrickState : Type 0 where
  pub home : Home
  pub rows : List CodedRow
  pub entries : List Entry
  pub spare_rows : ℕ
  pub spare_entries : ℕ

-- A row of a brick: its coordinates lie in the brick, and it has so many metrics.
pub record IsRowOf (home : Home) (row : CodedRow) : Type 0 where
  pub coords : LieIn home.sizes home.number row.coords
  pub metrics : length row.metrics ≡ home.metrics
