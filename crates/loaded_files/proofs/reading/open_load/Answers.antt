use Rattle.loaded_files.proofs.Openings.{opens, opens_not}
use Rattle.loaded_files.proofs.reading.open_load.Goals as goal

pub returns-in-Ok-clause-opens : goal.returns-in-Ok-clause-opens
returns-in-Ok-clause-opens g c =
    opens (g.S.Shelf.told c.args.shelf.now) _ _ c.args.path.now c.args.cube.now c.in-Ok.bytes c.begin_load.result c.in-Ok.ensures.given c.in-Ok.ensures.calls c.begin_load.ensures

pub returns-in-Err-clause-opens : goal.returns-in-Err-clause-opens
returns-in-Err-clause-opens g c =
    opens_not (g.S.Shelf.told c.args.shelf.now) _ _ c.args.path.now c.args.cube.now c.in-Err.fault c.in-Err.ensures.given c.in-Err.ensures.calls
