-- Bricks, the deletions that wait for bricks, and what making room may change of them.
use Rattle.std.specs.Prelude.{◌≡◌, ℕ, ◌≤◌, ◌==◌, nat_le, not, Bool, true, List, All}
use Rattle.cube_values.specs.declared.shape.CubeShape.{CubeShape}
use Rattle.cube_values.specs.declared.shape.Size.{Size}
use Rattle.cube_values.specs.Spans.{IsSoundPart}
use Rattle.condition_spans.specs.Spans.{CutNoBrick}
use Rattle.brick_store.specs.Bricks.{BrickState}
use Rattle.brick_map.specs.declared.deletion.Deletion.{Deletion}
use Rattle.brick_map.specs.declared.runs.BatchRun.{BatchRun}
use Rattle.brick_map.specs.Batches.{has_run, rows_for, runs_for}
use Rattle.brick_map.specs.Births.{content_among, rows_count}
use Rattle.brick_map.specs.Lists.{IsBrickOf, spare_entries_at, spare_rows_at}

-- The box of a deletion that waits cuts no brick.
pub record IsWaiting (sizes : List Size) (d : Deletion) : Type 0 where
  pub parts : All IsSoundPart d.span.parts
  pub whole : CutNoBrick sizes d.span.parts

-- A deletion of another epoch, and one above an epoch.
abbrev pub is_of_other : ℕ → Deletion → Bool
is_of_other epoch d = not (d.epoch == epoch)

abbrev pub is_above : ℕ → Deletion → Bool
is_above epoch d = not (nat_le d.epoch epoch)

-- Bricks may be born and have more room; what the bricks have stays.
pub record IsReadied (shape : CubeShape) (recent : List Deletion) (old new : List BrickState) : Type 0 where
  pub same : (number : ℕ)
      → content_among shape.shape.sizes recent new number ≡ content_among shape.shape.sizes recent old number
  pub count : rows_count new ≡ rows_count old
  pub bricks : All (IsBrickOf shape) new
  pub rows : (number : ℕ) → spare_rows_at number old ≤ spare_rows_at number new
  pub entries : (number : ℕ) → spare_entries_at number old ≤ spare_entries_at number new

-- Where runs are of the brick of a number, it has room for their rows.
abbrev pub IsReadyFor : List BatchRun → List BrickState → ℕ → Type 0
IsReadyFor runs bricks number = has_run number runs ≡ true
    → (rows_for number runs ≤ spare_rows_at number bricks) × (runs_for number runs ≤ spare_entries_at number bricks)
