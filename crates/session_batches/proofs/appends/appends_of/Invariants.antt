use Rattle.std.proofs.Common.{◌≡◌, ◌++◌, drop}
use Rattle.session_batches.specs.BatchCalls.{append_calls, numbers_with_rows}
use Rattle.session_batches.proofs.appends.appends_of.Given as goal

abbrev pub invariant-shards : goal.invariant-shards
invariant-shards l = record {
  left : l.left.items ≡ drop l.number l.fn.batches.items;
  numbers : l.numbers.items ++ numbers_with_rows l.number l.left.items ≡ numbers_with_rows 0 l.fn.batches.items;
  calls : l.calls.items ++ append_calls l.cube l.shape l.epoch l.left.items
      ≡ append_calls l.cube l.shape l.epoch l.fn.batches.items;
}
