use Rattle.std.proofs.Common.{◌≡◌, ◌+◌, ◌*◌, length}
use Rattle.measured_rows.proofs.one_brick.append_all.Given as goal

abbrev pub invariant-times : goal.invariant-times
invariant-times l = record {
  home : l.brick.home ≡ l.fn.brick.home;
  count : length l.brick.rows ≡ length l.fn.brick.rows + l.time * length l.batch.rows;
}
