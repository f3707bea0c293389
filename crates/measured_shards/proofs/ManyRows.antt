-- Rows of the cube of many bricks.
use Rattle.std.proofs.Common.{ℕ, ◌<◌, ◌*◌, ℤ, [], ◌∷◌, refl}
use Rattle.brick_map.specs.Batches.{IsRowOfCube}
use Rattle.measured_shards.specs.ManyBricks.{many_bricks}

-- Coordinates below their bounds, and a metric.
pub row_of_many : (bricks a b : ℕ) (m : ℤ) → a < 8 → b < bricks * 1_000
    → IsRowOfCube (many_bricks bricks) (record { coords = a ∷ b ∷ []; metrics = m ∷ [] })
row_of_many bricks a b m below below_too = record { coords = (below, (below_too, tt)); metrics = refl }
