use Rattle.core_cubes.proofs.StandingCubes.{found-later, told-by-finding}
use Rattle.core_inserts.proofs.inserts.insert_kept.Goals as goal

pub insert_bound-answered-requires-clause-told : goal.insert_bound-answered-requires-clause-told
insert_bound-answered-requires-clause-told g c =
    let cube = c.args.cube in (
      cube.name,
      told-by-finding (g.P.CellCaller.own c.args.caller.now) cube.name cube.place cube.schema c.requires.found,
    )

pub returns-clause-texts : goal.returns-clause-texts
returns-clause-texts g c =
    let own = g.P.CellCaller.own in
    let cube = c.args.cube in
    let bound = c.insert_bound-answered in
    c.keep_cube.ensures.told (own bound.new.caller) bound.ensures.texts
    (found-later (own c.args.caller.now) (own bound.new.caller) cube.name cube.place cube.schema
    bound.ensures.answered.more c.requires.found)
