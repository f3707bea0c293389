use Rattle.std.proofs.Common.{◌≡◌, ◌++◌}
use Rattle.cube_values.specs.Batches.{rows_between}
use Rattle.kept_batches.proofs.parts.copy_rows.Given as goal

abbrev pub invariant-rows : goal.invariant-rows
invariant-rows l = l.batch ≡ record l.fn.batch { rows = l.fn.batch.rows ++ rows_between l.from l.i l.rows.rows }
