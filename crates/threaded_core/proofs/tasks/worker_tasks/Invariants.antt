use Rattle.std.proofs.Common.{◌≡◌, ◌<◌, ◌≤◌, ℕ, length, slice_index_or}
use Rattle.std.specs.Prelude.{vec_capacity}
use Rattle.threaded_core.proofs.tasks.worker_tasks.Given as goal

abbrev pub invariant-workers : goal.invariant-workers
invariant-workers g l =
    (length l.tasks.items ≡ l.number)
    × (l.size.shards ≤ vec_capacity l.tasks)
    × ((k : ℕ) (d : _) → k < l.number → (slice_index_or l.tasks.items k d).work.number ≡ k)
    × ((k : ℕ) (d : _) → k < l.number → (slice_index_or l.tasks.items k d).work.size ≡ l.size)
