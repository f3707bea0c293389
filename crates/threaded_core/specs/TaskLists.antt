-- The works of all callers of a core as tasks: those of sessions bear their numbers.
-- Source: this project's own.
use Rattle.std.specs.Prelude.{◌≡◌, ℕ, ◌+◌, ◌<◌, suc, List, [], ◌∷◌, length, slice_index_or, None}
use Rattle.core_program.specs.declared.size.CoreSize.{CoreSize}
use Rattle.flush_loop.specs.MadeRounds.{KeptClaim}
use Rattle.run_threads.specs.CoreWorks.{MayClose, MayFlush, MayServeShard, OpeningCells}
use Rattle.threaded_callers.specs.Ends.{WorkDone}
use Rattle.threaded_callers.specs.declared.task.Task.{Task}
use Rattle.run_threads.specs.declared.flusher.FlusherWork.{FlusherWork}
use Rattle.run_threads.specs.declared.main_work.ClosingMain.{ClosingMain}
use Rattle.run_threads.specs.declared.worker.ShardWorker.{ShardWorker}
use Rattle.threaded_core.specs.declared.giving.AllTasks.{AllTasks}
use Rattle.threaded_core.specs.declared.numbered.NumberedWork.{NumberedWork}
use Rattle.turn_board.specs.declared.cells.Cells.{Ghosts}

module _ {W : Type 0} where
  -- Works with their numbers, from one on.
  abbrev pub numbered_works : ℕ → List W → List (NumberedWork W)
  numbered_works from [] = []
  numbered_works from (work ∷ works) = record { number = from; work = work } ∷ numbered_works (suc from) works

module _ {T W : Type 0} where
  -- When a work may begin that bears its number.
  abbrev pub numbered_may : (W → ℕ → List T → ℕ → Type 0) → NumberedWork W → ℕ → List T → ℕ → Type 0
  numbered_may may w callers opening caller = may w.work callers opening caller

module _ {T Q A W : Type 0} where
  -- What it has done. Its number stays.
  abbrev pub numbered_done : WorkDone T Q A W → WorkDone T Q A (NumberedWork W)
  numbered_done done before after opening caller own =
      done before.work after.work opening caller own × (after.number ≡ before.number)

-- When main, a worker and the flusher may begin.

abbrev pub main_may : ClosingMain → ℕ → OpeningCells → Type 0
main_may w callers cells = MayClose w.size.shards w.size.sessions callers cells

abbrev pub worker_may : {G : Type 0} → ShardWorker G → ℕ → OpeningCells → ℕ → Type 0
worker_may w callers cells caller = MayServeShard w.size.shards w.size.sessions w.number callers cells caller

abbrev pub flusher_may : {M : Type 0} → (M → OpeningCells → Type 0) → (M → M → KeptClaim) → FlusherWork M → ℕ
    → OpeningCells → ℕ → Type 0
flusher_may serves has_kept w callers cells caller =
    MayFlush serves has_kept w.size.shards w.size.sessions w.maker callers cells caller

module _ {C T Q A W : Type 0} {g : Ghosts C T Q A} where
  -- What a task is to do.
  abbrev pub task_work : Task C W T Q A g → W
  task_work task = task.work

  -- The work of a session that a task is to do.
  abbrev pub work_in : Task C (NumberedWork W) T Q A g → W
  work_in task = task.work.work

  -- The tasks have these works in their order, by their numbers from 1 on.
  pub record AreNumbered (works : List W) (tasks : List (Task C (NumberedWork W) T Q A g)) : Type 0 where
    pub as_many : length tasks ≡ length works
    pub each : (k : ℕ) (d : Task C (NumberedWork W) T Q A g) (e : W) → k < length works
        → (slice_index_or tasks k d).work ≡ record { number = 1 + k; work = slice_index_or works k e }

module _ {C T Q A W M G : Type 0} {g : Ghosts C T Q A} where
  -- The tasks are those of a core: main's, those of the sessions with these works, of the workers of all shards, and
  -- of the flusher with what makes the rounds.
  pub record AreTasksOf (size : CoreSize) (works : List W) (maker : M)
      (tasks : AllTasks C ClosingMain (NumberedWork W) (ShardWorker G) (FlusherWork M) T Q A g) : Type 0 where
    pub main : tasks.main.work.size ≡ size
    pub sessions : AreNumbered works tasks.sessions.items
    pub workers : length tasks.workers.items ≡ size.shards
    pub numbers : (k : ℕ) (d : Task C (ShardWorker G) T Q A g) → k < size.shards
        → (slice_index_or tasks.workers.items k d).work.number ≡ k
    pub sizes : (k : ℕ) (d : Task C (ShardWorker G) T Q A g) → k < size.shards
        → (slice_index_or tasks.workers.items k d).work.size ≡ size
    pub flusher : tasks.flusher.work.size ≡ size
    pub maker_is : tasks.flusher.work.maker ≡ maker
    pub no_round : tasks.flusher.work.last_round ≡ None
