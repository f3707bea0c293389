use Rattle.run_inputs.specs.ReadInputs.{GiveRunInput, files_of_run}
use Rattle.run_inputs.proofs.GivenInputs.{are-cubes, as-many, few-statements}
use Rattle.run_inputs.proofs.ServedFiles.{served}
use Rattle.run_inputs.proofs.inputs.read_run_files.Goals as goal

pub returns-clause-cubes : goal.returns-clause-cubes
returns-clause-cubes g c =
    are-cubes (g.H.Shelf.told c.args.shelf.now) (g.H.Shelf.call_list c.args.shelf.now)
    (g.H.Shelf.call_list c.read_in_turn.new.shelf) c.args.cubes.now c.args.scripts.now c.read_in_turn.result
    c.read_in_turn.ensures.ends

pub returns-clause-count : goal.returns-clause-count
returns-clause-count g c =
    as-many (g.H.Shelf.told c.args.shelf.now) (g.H.Shelf.call_list c.args.shelf.now)
    (g.H.Shelf.call_list c.read_in_turn.new.shelf) c.args.cubes.now c.args.scripts.now c.read_in_turn.result
    c.read_in_turn.ensures.ends

pub returns-clause-few : goal.returns-clause-few
returns-clause-few g c =
    few-statements (g.H.Shelf.told c.args.shelf.now) (g.H.Shelf.call_list c.args.shelf.now)
    (g.H.Shelf.call_list c.read_in_turn.new.shelf) c.args.cubes.now c.args.scripts.now c.read_in_turn.result
    c.read_in_turn.ensures.ends

pub returns-clause-served : goal.returns-clause-served
returns-clause-served g c ready quiet =
    served c.files_decide_their_end.ensures.one (g.H.Shelf.told c.args.shelf.now)
    (g.H.Shelf.call_list c.args.shelf.now) (g.H.Shelf.call_list c.read_in_turn.new.shelf)
    (files_of_run c.args.cubes.now c.args.scripts.now) (g.H.Shelf.fault_count c.args.shelf.now)
    (g.H.Shelf.fault_count c.read_in_turn.new.shelf) ready quiet
    (GiveRunInput c.args.cubes.now c.args.scripts.now) c.read_in_turn.result c.read_in_turn.ensures.ends
    c.read_in_turn.ensures.faults
