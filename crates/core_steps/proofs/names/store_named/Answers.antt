use Rattle.core_steps.proofs.OnCore.{knows-after}
use Rattle.core_steps.proofs.ToldNames.{told-after}
use Rattle.core_steps.proofs.names.store_named.Goals as goal

pub put_named-requires-clause-knows : goal.put_named-requires-clause-knows
put_named-requires-clause-knows g c =
    let opening = g.P.CellCaller.opening in
    let number = g.P.CellCaller.number in
    let own = g.P.CellCaller.own in
    let before = c.args.caller.now in
    let after = c.begin.new.caller in
    let did = c.in_ok-writer.ensures in
    knows-after c.args.size.now.shards c.args.cube.now.place c.args.cube.now.schema (opening before) (opening after)
    (number before) (number after) c.args.session (own before) (own after) did.opening did.number did.more
    c.requires.knows

pub put_named-requires-clause-told : goal.put_named-requires-clause-told
put_named-requires-clause-told g c =
    told-after (g.P.CellCaller.own c.args.caller.now) (g.P.CellCaller.own c.begin.new.caller) c.args.cube.now.place
    c.args.number c.in_ok-writer.ensures.more c.requires.told
