use Rattle.cube_core.proofs.LinkedHistories.{history-run, history-cells}
use Rattle.cube_core.proofs.histories.histories_are_core_runs.Goals as goal

pub returns-clause-run : goal.returns-clause-run
returns-clause-run g c = history-run g.C.Cells.step g.C.Cells.fits g.C.CoreBoard.opens g.C.CoreBoard.event g.C.CoreBoard.stands g.met.C.CoreBoard.linked

pub returns-clause-cells : goal.returns-clause-cells
returns-clause-cells g c = history-cells g.C.Cells.step g.C.Cells.fits g.C.CoreBoard.opens g.C.CoreBoard.event g.C.CoreBoard.stands g.met.C.CoreBoard.linked
