use Rattle.std.proofs.Common.{Some}
use Rattle.core_steps.proofs.OnCore.{may-put}
use Rattle.core_steps.proofs.writes.put_row.Goals as goal

pub look_for-requires-clause-ready : goal.look_for-requires-clause-ready
look_for-requires-clause-ready g c =
    let before = c.args.caller.now in (
      Some c.args.writer.now,
      c.snapshot_holders_are_ready.ensures.writer (g.P.CellCaller.opening before) (g.P.CellCaller.number before)
          c.args.session (g.P.CellCaller.own before) c.args.writer.now c.requires.holds,
    )

pub put_batch-requires-clause-may : goal.put_batch-requires-clause-may
put_batch-requires-clause-may g c =
    let mid = c.look_for.new.caller in
    may-put c.args.size.now.shards c.in_ok-cube.cube.place c.in_ok-cube.cube.schema (g.P.CellCaller.opening mid)
    (g.P.CellCaller.number mid) c.args.session (g.P.CellCaller.own mid) c.requires.some
    c.shared_shape-shape.result.now c.shared_shape-shape.ensures.value c.shared_shape-shape.ensures.sound
    c.in_ok-cube.ensures.knows c.in_ok-rows.rows.rows
    (rw c.shape.ensures at c.in_ok-rows.ensures.texts)

pub put_batch-requires-clause-holds : goal.put_batch-requires-clause-holds
put_batch-requires-clause-holds g c = c.in_ok-cube.ensures.same.writer c.args.writer.now c.requires.holds
