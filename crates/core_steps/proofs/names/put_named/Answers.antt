use Rattle.core_steps.proofs.ToldNames.{may-put-named}
use Rattle.core_steps.proofs.names.put_named.Goals as goal

pub put_batch-requires-clause-may : goal.put_batch-requires-clause-may
put_batch-requires-clause-may g c =
    let before = c.args.caller.now in
    may-put-named c.args.size.now.shards c.args.cube.now.place c.args.cube.now.schema (g.P.CellCaller.opening before)
    (g.P.CellCaller.number before) c.args.session (g.P.CellCaller.own before) c.requires.some
    c.shared_shape-shape.result.now c.shared_shape-shape.ensures.value c.shared_shape-shape.ensures.sound c.requires.knows
    c.args.number c.requires.told _ c.in_ok-rows.rows.rows c.in_ok-rows.ensures.row
