-- The brick that rows are appended to.
use Rattle.std.proofs.Common.{ℕ, ◌<◌, ℤ, [], ◌∷◌, refl, arith}
use Rattle.brick_store.specs.Bricks.{IsRowOf}
use Rattle.measured_rows.specs.OneBrick.{one_brick}

-- A row by coordinates below its bounds is a row of the brick.
pub row_of_one_brick : (a b : ℕ) (m : ℤ) → a < 8 → b < 1_000
    → IsRowOf one_brick (record { coords = a ∷ b ∷ []; metrics = m ∷ [] })
row_of_one_brick a b m below below_too =
    record {
      coords = record { of_cube = (below, (below_too, tt)); of_brick = omega arith };
      metrics = refl;
    }
