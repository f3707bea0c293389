use Rattle.std.proofs.Common.{◌≡◌, ◌+◌, ◌%◌, ◌^◌, ◌<◌, length}
use Rattle.std.specs.Prelude.{filter}
use Rattle.measures.specs.Loads.{is_row, rows_sum}
use Rattle.measures.proofs.loads.count_rows.Given as goal

abbrev pub invariant-rows : goal.invariant-rows
invariant-rows l = record {
  few : l.rows < 2 ^ 64;
  cube : l.loader.decl ≡ l.fn.loader.decl;
  sum : (l.rows + length (filter (is_row l.loader.decl) l.loader.left)) % 2 ^ 64 ≡ rows_sum l.fn.loader.decl l.fn.loader.left;
}

abbrev pub decreases-rows : goal.decreases-rows
decreases-rows l = length l.loader.left
