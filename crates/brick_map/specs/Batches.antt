-- A batch of rows of one cube, cut where the brick changes.
-- Source: this project's own.
use Rattle.std.specs.Prelude.{◌≡◌, ℕ, ◌+◌, ◌-◌, ◌<◌, ◌≤◌, ◌/◌, ◌==◌, Bool, List, [], ◌∷◌, length, All, slice_index_or, if◌then◌else◌}
use Rattle.std.specs.List.{list_any}
use Rattle.cube_values.specs.declared.row.CodedRow.{CodedRow}
use Rattle.cube_values.specs.declared.shape.CubeShape.{CubeShape}
use Rattle.cube_values.specs.declared.shape.Size.{Size}
use Rattle.cube_values.specs.Shapes.{bricks_of}
use Rattle.brick_address.specs.Addresses.{brick_of, coord_at, AreCoords}
use Rattle.cube_values.specs.Batches.{rows_between}
use Rattle.brick_map.specs.declared.runs.BatchRun.{BatchRun}

-- A row of a cube.
pub record IsRowOfCube (shape : CubeShape) (row : CodedRow) : Type 0 where
  pub coords : AreCoords shape.shape.sizes row.coords
  pub metrics : length row.metrics ≡ shape.metrics

-- Rows of a batch from one place up to another, all of the brick of a number.
pub record IsRunFrom (sizes : List Size) (rows : List CodedRow) (from : ℕ) (run : BatchRun) : Type 0 where
  pub begins : run.from ≡ from
  pub some : run.from < run.to
  pub within : run.to ≤ length rows
  pub brick : run.number < bricks_of sizes
  pub of_brick : All (λ row. brick_of sizes row.coords ≡ run.number) (rows_between run.from run.to rows)

-- The starts of the ranges in which coordinates lie.
abbrev pub range_starts : List Size → List ℕ → List ℕ
range_starts (s ∷ sizes) (coord ∷ coords) = coord_at s (coord / s.range) 0 ∷ range_starts sizes coords
range_starts sizes coords = []

-- The runs have the rows of a batch from a place on, one after another.
abbrev pub AreRuns : List Size → List CodedRow → ℕ → List BatchRun → Type 0
AreRuns sizes rows from [] = from ≡ length rows
AreRuns sizes rows from (run ∷ runs) = IsRunFrom sizes rows from run × AreRuns sizes rows run.to runs

-- The numbers of the runs rise, from one on.
abbrev pub RunsRiseFrom : ℕ → List BatchRun → Type 0
RunsRiseFrom low [] = Unit {0}
RunsRiseFrom low (run ∷ runs) = (low ≤ run.number) × RunsRiseFrom (run.number + 1) runs

-- A run is of the brick of a number.
abbrev pub has_run : ℕ → List BatchRun → Bool
has_run number runs = list_any (λ run. run.number == number) runs

-- How many rows runs have of the brick of a number, and how many runs these are.
abbrev pub rows_for : ℕ → List BatchRun → ℕ
rows_for number [] = 0
rows_for number (run ∷ runs) =
    if run.number == number then (run.to - run.from) + rows_for number runs else rows_for number runs

abbrev pub runs_for : ℕ → List BatchRun → ℕ
runs_for number [] = 0
runs_for number (run ∷ runs) = if run.number == number then 1 + runs_for number runs else runs_for number runs

-- Run i, and past the last one a run without rows.
abbrev pub run_at : List BatchRun → ℕ → BatchRun
run_at runs i = slice_index_or runs i (record { number = 0; from = 0; to = 0 })

-- The runs have so many rows from a place on, one after another.
abbrev pub AreRunsOver : ℕ → ℕ → List BatchRun → Type 0
AreRunsOver rows from [] = from ≡ rows
AreRunsOver rows from (run ∷ runs) =
    (run.from ≡ from) × (run.from < run.to) × (run.to ≤ rows) × AreRunsOver rows run.to runs
