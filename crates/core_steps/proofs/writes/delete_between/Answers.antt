use Rattle.std.proofs.Common.{Some}
use Rattle.core_steps.proofs.OnCore.{may-delete}
use Rattle.core_steps.proofs.writes.delete_between.Goals as goal

pub look_for-requires-clause-ready : goal.look_for-requires-clause-ready
look_for-requires-clause-ready g c =
    let before = c.args.caller.now in (
      Some c.args.writer.now,
      c.snapshot_holders_are_ready.ensures.writer (g.P.CellCaller.opening before) (g.P.CellCaller.number before)
          c.args.session (g.P.CellCaller.own before) c.args.writer.now c.requires.holds,
    )

pub drop_on_shards-requires-clause-deletes : goal.drop_on_shards-requires-clause-deletes
drop_on_shards-requires-clause-deletes g c =
    let mid = c.look_for.new.caller in
    let span = c.in_ok-span.ensures in
    may-delete c.args.size.now.shards c.in_ok-cube.cube.place c.in_ok-cube.cube.schema (g.P.CellCaller.opening mid)
    (g.P.CellCaller.number mid) c.args.session (g.P.CellCaller.own mid) c.requires.some
    c.shared_shape-shape.result.now c.shared_shape-shape.ensures.value c.shared_shape-shape.ensures.sound
    c.in_ok-cube.ensures.knows c.in_ok-span.span (rw c.shape.ensures at span.long) span.sound
    (rw c.shape.ensures at span.whole)

pub drop_on_shards-requires-clause-holds : goal.drop_on_shards-requires-clause-holds
drop_on_shards-requires-clause-holds g c = c.in_ok-cube.ensures.same.writer c.args.writer.now c.requires.holds
