use Rattle.brick_columns.proofs.InPlace.{ChangesEach}
use Rattle.brick_map.specs.Births.{content_without}
use Rattle.brick_map.specs.Waiting.{is_of_other}
use Rattle.shard_cell.specs.Slots.{IsSlotAfter}
use Rattle.shard_cell.proofs.passes.rollback_each.Given as goal

abbrev pub invariant-loop-cube : goal.invariant-loop-cube
invariant-loop-cube l = ChangesEach (IsSlotAfter (content_without l.epoch) (is_of_other l.epoch)) l.initial.cubes l.initial.cubes l.cubes l.cube-index
