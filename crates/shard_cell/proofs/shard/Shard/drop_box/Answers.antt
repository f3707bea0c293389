use Rattle.std.proofs.Common.{◌<◌, Option, length, set, subst, arith}
use Rattle.brick_map.specs.Births.{CubeState}
use Rattle.brick_map.proofs.Cubes.{on_err}
use Rattle.shard_cell.specs.Answers.{HasSameShard}
use Rattle.shard_cell.specs.Shards.{ShardState}
use Rattle.shard_cell.specs.Slots.{HasSameSlot}
use Rattle.shard_cell.proofs.Places.{all_same, slot_there}
use Rattle.shard_cell.proofs.shard.Shard.drop_box.Goals as goal

pub returns-in_err-drop_box-clause-err : goal.returns-in_err-drop_box-clause-err
returns-in_err-drop_box-clause-err c =
    let old = c.self.inside in
    let slot = c.index_mut-slot.result.now in
    let new = c.drop_box.new.self in
    let within : c.args.cube < length old.cubes.items = omega (arith, c.requires.shape.place, c.self.invariant.places) in
    let there = slot_there old.cubes.items c.args.cube slot within c.index_mut-slot.ensures.value in
    let same = subst (λ (s : Option CubeState). HasSameSlot s new) there c.in_err-drop_box.ensures.err in
    let after : ShardState = record { cubes = set old.cubes.items c.args.cube new; limit = old.limit } in
    on_err c.from_residual.result (HasSameShard c.args.self.now after) (subst (λ (s : ShardState). HasSameShard s after) c.self.view_is (all_same old.cubes.items c.args.cube new within old.limit same))
