use Rattle.std.proofs.Common.{◌<◌, length, ap, ◌∙◌, arith}
use Rattle.shard_cell.specs.Shards.{ShardState, cube_at}
use Rattle.shard_cell.proofs.Places.{rows_within, slot_there}
use Rattle.shard_cell.specs.Slots.{slot_rows}
use Rattle.shard_cell.proofs.Slots.{shown_moved}
use Rattle.shard_cell.proofs.shard.Shard.scan.Goals as goal

pub returns : goal.returns
returns c =
    let items = c.self.inside.cubes.items in
    let cube = c.args.query.now.cube in
    let slot = c.index-slot.result.now in
    let within : cube < length items = omega (arith, c.requires.shape.place, c.self.invariant.places) in
    let there = slot_there items cube slot within c.index-slot.ensures ∙ ap (λ (s : ShardState). cube_at s cube) c.self.view_is in
    let limit = ap (λ (s : ShardState). s.limit) c.self.view_is in
    let few = rows_within items cube slot c.self.inside.limit within c.index-slot.ensures (omega (arith, c.self.invariant.rows, c.self.invariant.few)) in
    shown_moved c.args.query.now c.args.shape.now.shape.sizes (slot_rows slot) c.args.self.now.limit c.args.snapshot.now slot (cube_at c.args.self.now cube) c.in_ok-found.found.groups (omega (arith, few, limit)) there c.in_ok-found.ensures
