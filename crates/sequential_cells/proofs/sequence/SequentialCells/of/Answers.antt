use Rattle.sequential_cells.proofs.GrownPasts.{first-past}
use Rattle.sequential_cells.proofs.sequence.SequentialCells.of.Goals as goal

pub returns-clause-past : goal.returns-clause-past
returns-clause-past g c = first-past g.C.Cells.step g.C.Cells.fits c.args.cells.items
