use Rattle.std.proofs.Common.{take}
use Rattle.std.specs.List.{AllZip}
use Rattle.shard_cell.specs.Slots.{IsSlotCopy}
use Rattle.shard_cell.proofs.passes.copy_each.Given as goal

abbrev pub invariant-loop-cube : goal.invariant-loop-cube
invariant-loop-cube l = AllZip (IsSlotCopy l.from l.to) (take l.cube-index l.cubes) l.copied.items
