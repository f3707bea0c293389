-- The works of sessions that may begin, by their places.
use Rattle.std.proofs.Common.{◌≡◌, ℕ, zero, suc, ◌+◌, ◌<◌, ◌≤◌, List, [], ◌∷◌, ◌++◌, length, slice_index_or, vec_capacity, arith}
use Rattle.core_program.specs.declared.size.CoreSize.{CoreSize}
use Rattle.core_scripts.specs.GivenScripts.{AreReadyWorks, IsReadyWork}
use Rattle.core_scripts.specs.PlayedWhole.{MayPlay}
use Rattle.core_scripts.specs.declared.work.ScriptWork.{ScriptWork}
use Rattle.core_watches.specs.BoundReaders.{OpenWithRowsOfCubes}
use Rattle.cube_core.specs.declared.cell.CoreCell.{CoreCell}
use Rattle.linked_shards.specs.declared.cell.CoreShard.{CoreShard}
use Rattle.scripted_pasts.specs.Served.{IsServed}

module _ {H G : Type 0} (size : CoreSize) where
  -- With one more.
  pub one-work-more : (from : ℕ) (works : List (ScriptWork H G)) (work : ScriptWork H G) → AreReadyWorks size from works
      → IsReadyWork size (from + length works) work → AreReadyWorks size from (works ++ work ∷ [])
  one-work-more from [] work are one =
      let same : from + 0 ≡ from = omega arith in
      (coe 0 1 (i. IsReadyWork size (same i) work) one, tt)
  one-work-more from (y ∷ works) work are one =
      let next : from + length (y ∷ works) ≡ from + 1 + length works = omega arith in
      (are.0, one-work-more (from + 1) works work are.1 (coe 0 1 (i. IsReadyWork size (next i) work) one))

  -- The work at a place bears the number of the place.
  pub work-at : (from : ℕ) (works : List (ScriptWork H G)) (k : ℕ) (d : ScriptWork H G) → AreReadyWorks size from works
      → k < length works → IsReadyWork size (from + k) (slice_index_or works k d)
  work-at from [] k d are lt = absurd (omega (arith, lt))
  work-at from (y ∷ works) zero d are lt =
      let same : from ≡ from + 0 = omega arith in
      coe 0 1 (i. IsReadyWork size (same i) y) are.0
  work-at from (y ∷ works) (suc k) d are lt =
      let same : from + 1 + k ≡ from + suc k = omega arith in
      coe 0 1 (i. IsReadyWork size (same i) (slice_index_or works k d))
      (work-at (from + 1) works k d are.1 (omega (arith, lt)))

  -- Each may begin on a core that serves its session.
  pub works-may-begin : (works : List (ScriptWork H G)) → AreReadyWorks size 1 works → length works ≡ size.sessions
      → (callers : ℕ) (cells : List (CoreCell CoreShard)) → size.sessions + 2 + size.shards ≤ callers
      → ((session : ℕ) → 1 ≤ session → session ≤ size.sessions → IsServed cells session session size.shards)
      → OpenWithRowsOfCubes cells → (k : ℕ) (d : ScriptWork H G) → k < size.sessions
      → MayPlay (slice_index_or works k d).size.shards (slice_index_or works k d).size.sessions
      (slice_index_or works k d).player (slice_index_or works k d).script.items (slice_index_or works k d).closing.items
      (slice_index_or works k d).replies.items (vec_capacity (slice_index_or works k d).replies) callers cells (1 + k)
  works-may-begin works are as_many callers cells all served rows k d lt =
      let at = work-at 1 works k d are (omega (arith, lt, as_many)) in
      let w = slice_index_or works k d in
      coe 1 0 (i. MayPlay (at.size_is i).shards (at.size_is i).sessions w.player w.script.items w.closing.items
      w.replies.items (vec_capacity w.replies) callers cells (1 + k))
      (at.ready callers (1 + k) cells (omega (arith, lt)) all (served (1 + k) (omega arith) (omega (arith, lt))) rows)
