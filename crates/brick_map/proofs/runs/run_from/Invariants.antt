use Rattle.std.proofs.Common.{◌≡◌, ◌<◌, ◌≤◌, All}
use Rattle.brick_address.specs.Addresses.{brick_of}
use Rattle.cube_values.specs.Batches.{rows_between}
use Rattle.brick_map.proofs.runs.run_from.Given as goal

abbrev pub invariant-rows : goal.invariant-rows
invariant-rows l = record {
  order : l.from < l.to;
  within : l.to ≤ l.count;
  same : All (λ row. brick_of l.shape.sizes row.coords ≡ l.number) (rows_between l.from l.to l.batch.rows);
}
