use Rattle.std.proofs.Common.{◌≡◌, ◌+◌, ◌≤◌, ◌++◌, length, map}
use Rattle.std.specs.Prelude.{vec_capacity}
use Rattle.threaded_core.specs.TaskLists.{numbered_works, task_work}
use Rattle.threaded_core.proofs.tasks.session_tasks.Given as goal

abbrev pub invariant-works : goal.invariant-works
invariant-works g l = record {
  left : l.number + length l.left.items ≡ l.count;
  long : length l.tasks.items ≡ l.number;
  room : l.count ≤ vec_capacity l.tasks;
  works : map task_work l.tasks.items ++ numbered_works (l.number + 1) l.left.items
      ≡ numbered_works 1 l.fn.works.items;
}
