use Rattle.std.proofs.Common.{All}
use Rattle.cube_values.specs.Batches.{rows_between}
use Rattle.brick_store.specs.Bricks.{IsRowOf}
use Rattle.store_cases.proofs.making.are_rows_of.Given as goal

abbrev pub invariant-rows : goal.invariant-rows
invariant-rows l =
    All (IsRowOf (record { sizes = l.shape.sizes; metrics = 1; number = l.number })) (rows_between l.from l.i l.batch.rows)
