use Rattle.dropped_regions.proofs.DroppedOnShards.{if-asked, if-dropped, may-delete}
use Rattle.dropped_regions.proofs.drops.drop_region.Goals as goal

pub drop_on_shards-requires-clause-deletes : goal.drop_on_shards-requires-clause-deletes
drop_on_shards-requires-clause-deletes g c =
    may-delete (g.P.CellCaller.opening c.args.caller.now) (g.P.CellCaller.number c.args.caller.now) c.args.session
    (g.P.CellCaller.own c.args.caller.now) c.args.place c.args.cube.now c.shared_shape-shape.result.now c.args.span.now
    c.requires.client c.requires.storable c.requires.told c.requires.whole c.shared_shape-shape.ensures.value
    c.shared_shape-shape.ensures.sound

pub returns-clause-operations : goal.returns-clause-operations
returns-clause-operations g c =
    if-dropped (g.P.CellCaller.opening c.args.caller.now) (g.P.CellCaller.number c.args.caller.now) c.args.session
    (g.P.CellCaller.own c.args.caller.now) c.args.place (g.P.CellCaller.own c.drop_on_shards.new.caller)
    c.args.size.now.shards c.shared_shape-shape.result.now c.args.span.now c.args.writer.now c.requires.some c.requires.holds
    c.drop_on_shards.result c.drop_on_shards.ensures.asked

pub returns-clause-asked : goal.returns-clause-asked
returns-clause-asked g c =
    if-asked (g.P.CellCaller.opening c.args.caller.now) (g.P.CellCaller.number c.args.caller.now) c.args.session
    (g.P.CellCaller.own c.args.caller.now) c.args.place (g.P.CellCaller.own c.drop_on_shards.new.caller)
    c.args.size.now.shards c.shared_shape-shape.result.now c.args.span.now c.args.writer.now c.requires.some c.requires.holds
    c.drop_on_shards.result c.args.cube.now c.shared_shape-shape.ensures.value c.drop_on_shards.ensures.asked
