use Rattle.brick_columns.proofs.InPlace.{ChangesEach}
use Rattle.brick_map.specs.Births.{content_purged}
use Rattle.brick_map.specs.Waiting.{is_above}
use Rattle.shard_cell.specs.Slots.{IsSlotAfter}
use Rattle.shard_cell.proofs.passes.purge_each.Given as goal

abbrev pub invariant-loop-cube : goal.invariant-loop-cube
invariant-loop-cube l = ChangesEach (IsSlotAfter (content_purged l.epoch) (is_above l.epoch)) l.initial.cubes l.initial.cubes l.cubes l.cube-index
