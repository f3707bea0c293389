use Rattle.std.proofs.Common.{refl}
use Rattle.run_inputs.specs.ReadInputs.{GiveOverCubes, GiveScripts, script_files}
use Rattle.run_inputs.proofs.GivenInputs.{ends-unread}
use Rattle.run_inputs.proofs.inputs.read_over_cubes.Goals as goal

pub returns-in-Ok-clause-ends : goal.returns-in-Ok-clause-ends
returns-in-Ok-clause-ends g c = record {
  reading = c.in-Ok.ensures.ends.reading;
  read = c.in-Ok.ensures.ends.read;
  given = (refl, c.in-Ok.ensures.ends.given);
}

pub returns-in-Err-clause-ends : goal.returns-in-Err-clause-ends
returns-in-Err-clause-ends g c =
    ends-unread (GiveScripts c.args.scripts.now) (GiveOverCubes c.args.declared.items c.args.scripts.now)
    (g.H.Shelf.told c.args.shelf.now) (g.H.Shelf.call_list c.args.shelf.now)
    (g.H.Shelf.call_list c.read_scripts.new.shelf) (script_files 1 c.args.scripts.now) c.in-Err.error
    c.in-Err.ensures.ends
