-- Boxes that cut no brick.
-- Source: Cubrick (VLDB 2016), granular partitioning; that a deletion takes whole bricks is this project's own.
use Rattle.std.specs.Prelude.{◌≡◌, ℕ, ◌+◌, ◌%◌, ◌<◌}

-- A coordinate is the first of its range, of so many, and another the last of its own.
pub record AreRangeEnds (range low high : ℕ) : Type 0 where
  pub some : 0 < range
  pub first : low % range ≡ 0
  pub last : (high + 1) % range ≡ 0
