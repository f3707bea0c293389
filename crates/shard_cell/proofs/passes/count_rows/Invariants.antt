use Rattle.std.proofs.Common.{◌≡◌, sum_by, take}
use Rattle.shard_cell.specs.Slots.{slot_rows}
use Rattle.shard_cell.proofs.passes.count_rows.Given as goal

abbrev pub invariant-loop-cube : goal.invariant-loop-cube
invariant-loop-cube l = l.rows ≡ sum_by slot_rows (take l.cube-index l.cubes)
