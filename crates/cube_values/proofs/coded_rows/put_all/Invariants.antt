use Rattle.std.proofs.Common.{◌≡◌, ◌++◌, take, vec_capacity}
use Rattle.cube_values.proofs.coded_rows.put_all.Given as goal

abbrev pub invariant-loop-item : goal.invariant-loop-item
invariant-loop-item g l = record {
  items : l.items.items ≡ l.initial.items.items ++ take l.item-index l.more;
  capacity : vec_capacity l.items ≡ vec_capacity l.initial.items;
}
