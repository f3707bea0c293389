use Rattle.std.proofs.Common.{All}
use Rattle.brick_columns.specs.Rows.{LiesFrom}
use Rattle.cube_values.specs.Batches.{rows_between}
use Rattle.column_cases.proofs.rows.can_be_put.Given as goal

abbrev pub invariant-rows : goal.invariant-rows
invariant-rows l =
    All (LiesFrom (record { ranges = l.ranges; metrics = l.metrics }) l.starts) (rows_between l.from l.i l.batch.rows)
