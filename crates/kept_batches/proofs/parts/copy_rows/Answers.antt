use Rattle.std.proofs.Common.{arith}
use Rattle.kept_batches.proofs.Putting.{row_copied}
use Rattle.kept_batches.proofs.parts.copy_rows.Goals as goal

pub rows-preserved : goal.rows-preserved
rows-preserved c =
    row_copied c.args.batch.now c.rows.batch c.push.new.self c.args.from c.rows.i c.args.rows.now.rows
    c.coords_of.result.now c.metrics_of.result.now
    (omega arith) (omega arith) c.rows.invariant c.coords_of.ensures c.metrics_of.ensures c.push.ensures
