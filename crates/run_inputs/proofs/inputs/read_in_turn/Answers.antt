use Rattle.std.proofs.Common.{ℕ, subst}
use Rattle.run_files.specs.Readings.{AbsenceRises, FaultRises, bad_in}
use Rattle.run_inputs.specs.ReadInputs.{GiveOverCubes, ReadingEnds, script_files}
use Rattle.run_inputs.proofs.GivenInputs.{with-scripts, without-scripts}
use Rattle.run_inputs.proofs.inputs.read_in_turn.Goals as goal

pub returns-in-Ok-clause-faults : goal.returns-in-Ok-clause-faults
returns-in-Ok-clause-faults g c =
    subst (λ (n : ℕ). FaultRises (bad_in c.read_over_cubes.result) n
    (g.H.Shelf.fault_count c.read_over_cubes.new.shelf)) c.in-Ok.ensures.faults c.read_over_cubes.ensures.faults

pub returns-in-Ok-clause-absences : goal.returns-in-Ok-clause-absences
returns-in-Ok-clause-absences g c =
    subst (λ (n : ℕ). AbsenceRises (bad_in c.read_over_cubes.result) n
    (g.H.Shelf.absence_count c.read_over_cubes.new.shelf)) c.in-Ok.ensures.absences c.read_over_cubes.ensures.absences

pub returns-in-Ok-clause-ends : goal.returns-in-Ok-clause-ends
returns-in-Ok-clause-ends g c =
    with-scripts (g.H.Shelf.told c.args.shelf.now) (g.H.Shelf.call_list c.args.shelf.now)
    (g.H.Shelf.call_list c.read_cubes.new.shelf) (g.H.Shelf.call_list c.read_over_cubes.new.shelf) c.args.cubes.now
    c.args.scripts.now c.in-Ok.declared c.read_over_cubes.result c.in-Ok.ensures.read
    (coe 0 1 (i. ReadingEnds (GiveOverCubes c.in-Ok.declared.items c.args.scripts.now) (c.in-Ok.ensures.same i)
    (g.H.Shelf.call_list c.read_cubes.new.shelf) (g.H.Shelf.call_list c.read_over_cubes.new.shelf)
    (script_files 1 c.args.scripts.now) c.read_over_cubes.result) c.read_over_cubes.ensures.ends)

pub returns-in-Err-clause-ends : goal.returns-in-Err-clause-ends
returns-in-Err-clause-ends g c =
    without-scripts (g.H.Shelf.told c.args.shelf.now) (g.H.Shelf.call_list c.args.shelf.now)
    (g.H.Shelf.call_list c.read_cubes.new.shelf) (g.H.Shelf.call_list c.read_cubes.new.shelf) c.args.cubes.now
    c.args.scripts.now c.in-Err.error c.in-Err.ensures.read
