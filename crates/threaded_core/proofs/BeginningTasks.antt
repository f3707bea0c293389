-- The works of a core may begin, by their sizes and numbers.
use Rattle.std.proofs.Common.{◌≡◌, ℕ, ◌+◌, sym, subst}
use Rattle.core_program.specs.declared.size.CoreSize.{CoreSize}
use Rattle.flush_loop.specs.MadeRounds.{KeptClaim}
use Rattle.run_threads.specs.CoreWorks.{MayClose, MayFlush, MayServeShard, OpeningCells}
use Rattle.run_threads.specs.declared.flusher.FlusherWork.{FlusherWork}
use Rattle.run_threads.specs.declared.main_work.ClosingMain.{ClosingMain}
use Rattle.run_threads.specs.declared.worker.ShardWorker.{ShardWorker}
use Rattle.threaded_core.specs.TaskLists.{flusher_may, main_may, worker_may}

module _ (size : CoreSize) (callers : ℕ) (cells : OpeningCells) where
  pub main_begins : (w : ClosingMain) → w.size ≡ size → MayClose size.shards size.sessions callers cells
      → main_may w callers cells
  main_begins w size-is may = subst (λ (s : CoreSize). MayClose s.shards s.sessions callers cells) (sym size-is) may

  pub worker_begins : {G : Type 0} (w : ShardWorker G) (number caller : ℕ) → w.size ≡ size → w.number ≡ number
      → size.sessions + 1 + number ≡ caller
      → MayServeShard size.shards size.sessions number callers cells (size.sessions + 1 + number)
      → worker_may w callers cells caller
  worker_begins w number caller size-is number-is caller-is may =
      subst (λ (s : CoreSize). MayServeShard s.shards s.sessions w.number callers cells caller) (sym size-is)
      (subst (λ n. MayServeShard size.shards size.sessions n callers cells caller) (sym number-is)
      (subst (λ n. MayServeShard size.shards size.sessions number callers cells n) caller-is may))

  pub flusher_begins : {M : Type 0} (serves : M → OpeningCells → Type 0) (has_kept : M → M → KeptClaim) (w : FlusherWork M)
      (maker : M) (caller : ℕ) → w.size ≡ size → w.maker ≡ maker → size.sessions + 1 + size.shards ≡ caller
      → MayFlush serves has_kept size.shards size.sessions maker callers cells (size.sessions + 1 + size.shards)
      → flusher_may serves has_kept w callers cells caller
  flusher_begins serves has_kept w maker caller size-is maker-is caller-is may =
      subst (λ (s : CoreSize). MayFlush serves has_kept s.shards s.sessions w.maker callers cells caller) (sym size-is)
      (subst (λ m. MayFlush serves has_kept size.shards size.sessions m callers cells caller) (sym maker-is)
      (subst (λ n. MayFlush serves has_kept size.shards size.sessions maker callers cells n) caller-is may))
