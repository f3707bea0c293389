use Rattle.std.proofs.Common.{◌≡◌, length, map}
use Rattle.brick_store.specs.Whole.{row_with_coords}
use Rattle.brick_store.proofs.RoundParts.{IsCopied}
use Rattle.brick_store.proofs.copies.copy_entries.Given as goal

abbrev pub invariant-entries : goal.invariant-entries
invariant-entries l = record {
  made : IsCopied l.from l.to (map (row_with_coords l.starts) l.columns.rows) l.entries l.first l.left l.epochs.entries l.batch.rows;
  dims : l.batch.dims ≡ length l.starts;
  width : l.batch.width ≡ l.columns.layout.metrics;
}

abbrev pub decreases-entries : goal.decreases-entries
decreases-entries l = length l.left
