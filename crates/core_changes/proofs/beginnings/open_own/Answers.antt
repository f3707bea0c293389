use Rattle.core_changes.proofs.OpenedWriters.{none-left, writer-left}
use Rattle.core_changes.proofs.beginnings.open_own.Goals as goal

pub returns-in-Some-clause-left : goal.returns-in-Some-clause-left
returns-in-Some-clause-left g c =
    let old = c.args.caller.now in
    writer-left (g.P.CellCaller.opening old) (g.P.CellCaller.number old) c.args.session (g.P.CellCaller.own old)
    (g.P.CellCaller.own c.open_writer.new.caller) c.requires.client c.args.statement c.in-Some.writer
    c.in-Some.ensures.own

pub returns-in-Some-clause-more : goal.returns-in-Some-clause-more
returns-in-Some-clause-more g c =
    let old = c.args.caller.now in
    (writer-left (g.P.CellCaller.opening old) (g.P.CellCaller.number old) c.args.session (g.P.CellCaller.own old)
    (g.P.CellCaller.own c.open_writer.new.caller) c.requires.client c.args.statement c.in-Some.writer
    c.in-Some.ensures.own).more

pub returns-in-Some-clause-plain : goal.returns-in-Some-clause-plain
returns-in-Some-clause-plain g c =
    let old = c.args.caller.now in
    (writer-left (g.P.CellCaller.opening old) (g.P.CellCaller.number old) c.args.session (g.P.CellCaller.own old)
    (g.P.CellCaller.own c.open_writer.new.caller) c.requires.client c.args.statement c.in-Some.writer
    c.in-Some.ensures.own).plain

pub returns-in-None-clause-none : goal.returns-in-None-clause-none
returns-in-None-clause-none g c =
    let old = c.args.caller.now in
    none-left (g.P.CellCaller.opening old) (g.P.CellCaller.number old) c.args.session (g.P.CellCaller.own old)
    (g.P.CellCaller.own c.open_writer.new.caller) c.requires.client c.args.statement c.in-None.ensures.own

pub returns-in-None-clause-more : goal.returns-in-None-clause-more
returns-in-None-clause-more g c =
    let old = c.args.caller.now in
    (none-left (g.P.CellCaller.opening old) (g.P.CellCaller.number old) c.args.session (g.P.CellCaller.own old)
    (g.P.CellCaller.own c.open_writer.new.caller) c.requires.client c.args.statement c.in-None.ensures.own).more

pub returns-in-None-clause-plain : goal.returns-in-None-clause-plain
returns-in-None-clause-plain g c =
    let old = c.args.caller.now in
    (none-left (g.P.CellCaller.opening old) (g.P.CellCaller.number old) c.args.session (g.P.CellCaller.own old)
    (g.P.CellCaller.own c.open_writer.new.caller) c.requires.client c.args.statement c.in-None.ensures.own).plain
