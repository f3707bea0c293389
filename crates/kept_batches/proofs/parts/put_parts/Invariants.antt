use Rattle.std.proofs.Common.{◌≡◌, ◌++◌, take}
use Rattle.std.specs.List.{flat_map}
use Rattle.kept_batches.specs.Unhidden.{rows_for_bricks}
use Rattle.kept_batches.proofs.parts.put_parts.Given as goal

abbrev pub invariant-parts : goal.invariant-parts
invariant-parts l = record {
  rows : l.batch.rows
      ≡ l.fn.batch.rows ++ flat_map (rows_for_bricks l.snapshot l.bricks l.limits) (take l.part-index l.parts);
  dims : l.batch.dims ≡ l.fn.batch.dims;
  width : l.batch.width ≡ l.fn.batch.width;
}
