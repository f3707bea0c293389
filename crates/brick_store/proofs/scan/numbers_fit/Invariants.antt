use Rattle.std.proofs.Common.{take, All}
use Rattle.brick_store.specs.Cells.{HasFitNumbers}
use Rattle.brick_store.proofs.scan.numbers_fit.Given as goal

abbrev pub invariant-items : goal.invariant-items
invariant-items l = All (HasFitNumbers (take l.item-index l.items)) l.columns.rows
