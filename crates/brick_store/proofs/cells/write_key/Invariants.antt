use Rattle.brick_columns.specs.Rows.{BrickRow}
use Rattle.brick_store.specs.Cells.{IsRowOfCell}
use Rattle.brick_store.proofs.CellKeys.{IsKeySoFar}
use Rattle.brick_store.proofs.cells.write_key.Given as goal

abbrev pub invariant-dims : goal.invariant-dims
invariant-dims l = (row : BrickRow) → IsRowOfCell l.columns.layout l.starts l.group l.cell row → IsKeySoFar l.columns.layout l.starts l.group l.cell l.left l.key l.i row
