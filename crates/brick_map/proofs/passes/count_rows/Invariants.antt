use Rattle.std.proofs.Common.{◌≡◌, take}
use Rattle.brick_map.specs.Births.{rows_count}
use Rattle.brick_map.proofs.passes.count_rows.Given as goal

abbrev pub invariant-loop-brick : goal.invariant-loop-brick
invariant-loop-brick l = l.rows ≡ rows_count (take l.brick-index l.bricks)
