use Rattle.core_rows.proofs.RowsOfRuns.{serial-rows-of}
use Rattle.core_rows.proofs.law.rows_are_of_their_cube.Goals as goal

pub returns : goal.returns
returns c = serial-rows-of
