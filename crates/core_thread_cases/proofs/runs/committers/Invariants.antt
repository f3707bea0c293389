use Rattle.std.proofs.Common.{◌≡◌, ◌+◌, ◌<◌, ◌≤◌, ℕ, length, slice_index_or}
use Rattle.std.specs.Prelude.{vec_capacity}
use Rattle.core_thread_cases.proofs.runs.committers.Given as goal

abbrev pub invariant-sessions : goal.invariant-sessions
invariant-sessions l =
    (length l.works.items ≡ l.number)
    × (l.size.sessions ≤ vec_capacity l.works)
    × ((k : ℕ) (d : _) → k < l.number → (slice_index_or l.works.items k d).session ≡ 1 + k)
    × ((k : ℕ) (d : _) → k < l.number → (slice_index_or l.works.items k d).size ≡ l.size)
