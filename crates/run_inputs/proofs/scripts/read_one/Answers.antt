use Rattle.std.proofs.Common.{Option, sym, subst}
use Rattle.run_files.specs.Readings.{AbsenceRises, FaultRises}
use Rattle.run_files.specs.declared.bad_file.BadFile.{BadFile}
use Rattle.run_inputs.proofs.SaidTexts.{no-bad-said, one-said, one-unread, texts-stand}
use Rattle.run_inputs.proofs.scripts.read_one.Goals as goal

pub said_of-requires-clause-texts : goal.said_of-requires-clause-texts
said_of-requires-clause-texts g c κs within =
    texts-stand (g.H.Shelf.told c.args.shelf.now) (g.H.Shelf.call_list c.args.shelf.now)
    (g.H.Shelf.call_list c.read_script.new.shelf) c.args.number c.args.name.now c.in-Ok.script c.in-Ok.ensures.read

pub returns-in-Ok-clause-faults : goal.returns-in-Ok-clause-faults
returns-in-Ok-clause-faults g c =
    subst (λ (b : Option BadFile). FaultRises b (g.H.Shelf.fault_count c.args.shelf.now)
    (g.H.Shelf.fault_count c.read_script.new.shelf))
    (sym (no-bad-said c.in-Ok.script.bytes.items c.in-Ok.script.pieces c.said_of.result c.said_of.ensures))
    c.in-Ok.ensures.faults

pub returns-in-Ok-clause-absences : goal.returns-in-Ok-clause-absences
returns-in-Ok-clause-absences g c =
    subst (λ (b : Option BadFile). AbsenceRises b (g.H.Shelf.absence_count c.args.shelf.now)
    (g.H.Shelf.absence_count c.read_script.new.shelf))
    (sym (no-bad-said c.in-Ok.script.bytes.items c.in-Ok.script.pieces c.said_of.result c.said_of.ensures))
    c.in-Ok.ensures.absences

pub returns-in-Ok-clause-read : goal.returns-in-Ok-clause-read
returns-in-Ok-clause-read g c =
    one-said (g.H.Shelf.told c.args.shelf.now) (g.H.Shelf.call_list c.args.shelf.now)
    (g.H.Shelf.call_list c.read_script.new.shelf) c.args.number c.args.name.now c.in-Ok.script c.said_of.result
    c.in-Ok.ensures.read c.said_of.ensures

pub returns-in-Err-clause-read : goal.returns-in-Err-clause-read
returns-in-Err-clause-read g c =
    one-unread (g.H.Shelf.told c.args.shelf.now) (g.H.Shelf.call_list c.args.shelf.now)
    (g.H.Shelf.call_list c.read_script.new.shelf) c.args.number c.args.name.now c.in-Err.error c.in-Err.ensures.read
