use Rattle.std.proofs.Common.{◌≡◌, take, vec_len, vec_capacity, length}
use Rattle.std.specs.List.{AllZip}
use Rattle.brick_columns.specs.Rows.{IsWidth}
use Rattle.brick_columns.proofs.columns.widths_of.Given as goal

abbrev pub invariant-loop-range : goal.invariant-loop-range
invariant-loop-range l = record {
  widths : AllZip IsWidth (take l.range-index l.ranges) l.widths.items;
  count : vec_len l.widths ≡ l.range-index;
  room : vec_capacity l.widths ≡ length l.ranges;
}
