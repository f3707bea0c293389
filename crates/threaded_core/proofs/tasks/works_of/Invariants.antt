use Rattle.std.proofs.Common.{◌≡◌, ◌+◌, ◌≤◌, ◌++◌, length, map, take}
use Rattle.std.specs.Prelude.{vec_capacity}
use Rattle.threaded_core.specs.TaskLists.{work_in}
use Rattle.threaded_core.proofs.tasks.works_of.Given as goal

abbrev pub invariant-tasks : goal.invariant-tasks
invariant-tasks g l = record {
  left : l._number + length l.left.items ≡ l.count;
  room : l.count ≤ vec_capacity l.works;
  long : length l.works.items ≡ l._number;
  works : l.works.items ++ map work_in l.left.items ≡ map work_in (take l.count l.fn.tasks.items);
}
