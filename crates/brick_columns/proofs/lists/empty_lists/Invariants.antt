use Rattle.std.proofs.Common.{◌≡◌, [], All, vec_len, vec_capacity}
use Rattle.brick_columns.proofs.lists.empty_lists.Given as goal

abbrev pub invariant-loop : goal.invariant-loop
invariant-loop g l = record {
  count : vec_len l.lists ≡ l.counter;
  room : vec_capacity l.lists ≡ l.count;
  empty : All (λ list. list.items ≡ []) l.lists.items;
}
