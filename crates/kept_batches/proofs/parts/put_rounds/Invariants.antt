use Rattle.std.proofs.Common.{◌≡◌, ◌++◌, take}
use Rattle.std.specs.List.{flat_map}
use Rattle.kept_batches.specs.RoundsFit.{parts_of_rounds}
use Rattle.kept_batches.specs.Unhidden.{rows_for_bricks}
use Rattle.kept_batches.proofs.parts.put_rounds.Given as goal

abbrev pub invariant-rounds : goal.invariant-rounds
invariant-rounds l = record {
  rows : l.batch.rows
      ≡ l.fn.batch.rows ++ flat_map (rows_for_bricks l.snapshot l.bricks l.limits)
      (parts_of_rounds l.bricks.place (take l.round-index l.rounds));
  dims : l.batch.dims ≡ l.fn.batch.dims;
  width : l.batch.width ≡ l.fn.batch.width;
}
