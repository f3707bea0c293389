use Rattle.std.proofs.Common.{◌≡◌, ◌++◌}
use Rattle.std.specs.List.{flat_map}
use Rattle.cube_values.specs.Batches.{rows_between}
use Rattle.cube_rounds.specs.Bytes.{row_bytes}
use Rattle.round_text.proofs.put.put_rows.Given as goal

abbrev pub invariant-rows : goal.invariant-rows
invariant-rows l = l.out.items ≡ l.fn.out.items ++ flat_map row_bytes (rows_between l.from l.i l.rows.rows)
