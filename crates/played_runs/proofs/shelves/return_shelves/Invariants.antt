use Rattle.std.proofs.Common.{◌≡◌, ◌+◌, ◌≤◌, ◌++◌, length, map}
use Rattle.std.specs.List.{AllByRecursion}
use Rattle.std.specs.Prelude.{◌↔◌, IsTrue, vec_capacity}
use Rattle.played_runs.specs.ReadySessions.{IsWhole, replies_of, shelf_of}
use Rattle.played_runs.proofs.shelves.return_shelves.Given as goal

abbrev pub invariant-works : goal.invariant-works
invariant-works g l = record {
  left : l._number + length l.left.items ≡ l.count;
  said : length l.replies.items ≡ l._number;
  room : l.count ≤ vec_capacity l.replies;
  places : length l.shelves.items + length l.left.items ≤ vec_capacity l.shelves;
  shelves : l.shelves.items ++ map shelf_of l.left.items ≡ l.fn.rest.items ++ map shelf_of l.fn.works.items;
  replies : l.replies.items ++ map replies_of l.left.items ≡ map replies_of l.fn.works.items;
  whole : (IsTrue l.whole × AllByRecursion IsWhole l.left.items) ↔ AllByRecursion IsWhole l.fn.works.items;
}
