use Rattle.std.proofs.Common.{◌≡◌, ◌-◌, ◌^◌, min, sum_by, take}
use Rattle.shard_cell.specs.Slots.{slot_bricks}
use Rattle.shard_cell.proofs.passes.count_bricks.Given as goal

abbrev pub invariant-loop-cube : goal.invariant-loop-cube
invariant-loop-cube l = l.bricks ≡ min (sum_by slot_bricks (take l.cube-index l.cubes)) (2 ^ 64 - 1)
