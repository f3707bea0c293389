use Rattle.std.proofs.Common.{◌<◌, length, ap, ◌∙◌, arith}
use Rattle.shard_cell.specs.Shards.{ShardState, cube_at}
use Rattle.shard_cell.proofs.Places.{rows_within, slot_there}
use Rattle.shard_cell.specs.Answers.{reader_at}
use Rattle.shard_cell.specs.Slots.{slot_rows}
use Rattle.shard_cell.proofs.Slots.{apart_moved}
use Rattle.shard_cell.proofs.shard.Shard.delta.Goals as goal

pub returns-clause-came : goal.returns-clause-came
returns-clause-came c =
    let items = c.self.inside.cubes.items in
    let cube = c.args.query.now.cube in
    let slot = c.index-slot.result.now in
    let within : cube < length items = omega (arith, c.requires.shape.place, c.self.invariant.places) in
    let there = slot_there items cube slot within c.index-slot.ensures ∙ ap (λ (s : ShardState). cube_at s cube) c.self.view_is in
    let limit = ap (λ (s : ShardState). s.limit) c.self.view_is in
    let few = rows_within items cube slot c.self.inside.limit within c.index-slot.ensures (omega (arith, c.self.invariant.rows, c.self.invariant.few)) in
    apart_moved c.args.query.now c.args.shape.now.shape.sizes (slot_rows slot) c.args.self.now.limit c.reader_at-after.result c.reader_at-before.result (reader_at c.args.to) (reader_at c.args.from) slot (cube_at c.args.self.now cube) c.in_ok-change.change.came.groups (omega (arith, few, limit)) there c.reader_at-after.ensures c.reader_at-before.ensures c.in_ok-change.ensures.came

pub returns-clause-went : goal.returns-clause-went
returns-clause-went c =
    let items = c.self.inside.cubes.items in
    let cube = c.args.query.now.cube in
    let slot = c.index-slot.result.now in
    let within : cube < length items = omega (arith, c.requires.shape.place, c.self.invariant.places) in
    let there = slot_there items cube slot within c.index-slot.ensures ∙ ap (λ (s : ShardState). cube_at s cube) c.self.view_is in
    let limit = ap (λ (s : ShardState). s.limit) c.self.view_is in
    let few = rows_within items cube slot c.self.inside.limit within c.index-slot.ensures (omega (arith, c.self.invariant.rows, c.self.invariant.few)) in
    apart_moved c.args.query.now c.args.shape.now.shape.sizes (slot_rows slot) c.args.self.now.limit c.reader_at-before.result c.reader_at-after.result (reader_at c.args.from) (reader_at c.args.to) slot (cube_at c.args.self.now cube) c.in_ok-change.change.went.groups (omega (arith, few, limit)) there c.reader_at-before.ensures c.reader_at-after.ensures c.in_ok-change.ensures.went
