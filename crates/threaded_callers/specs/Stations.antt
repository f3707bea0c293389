-- Works that are lent out: each stands at its station, and whoever has time takes it for a step.
-- Source: a thread that waits helps those that it waits for, as in Herlihy, Wait-Free Synchronization (1991), and in Hendler,
-- Incze, Shavit and Tzafrir, Flat Combining (2010).
use Rattle.std.specs.Prelude.{◌≡◌, ℕ, ◌+◌, ◌<◌, Bool, MatchBool, List, Option, Some, length, slice_get, slice_index_or}
use Rattle.turn_board.specs.declared.board.Board.{Board}
use Rattle.turn_board.specs.declared.cells.Cells.{Ghosts}
use Rattle.threaded_callers.specs.Ends.{WorkDone}
use Rattle.threaded_callers.specs.Tasks.{IsDoneFrom, IsReady}
use Rattle.threaded_callers.specs.declared.task.Task.{Task}

module _ {T Q A W : Type 0} (so_far done : WorkDone T Q A W) where
  -- What was done: all where it is over, else something so far.
  abbrev pub done_so : Bool → WorkDone T Q A W
  done_so over before after opening number own =
      MatchBool over (done before after opening number own) (so_far before after opening number own)

module _ {C T Q A W : Type 0} {g : Ghosts C T Q A} (may : W → ℕ → List T → ℕ → Type 0) (b : Board C T Q A)
    (works : List W) (from : ℕ) where
  -- The task may begin, by the caller of its place, and its work is the one that is listed there.
  pub record IsListed (place : ℕ) (task : Task C W T Q A g) : Type 0 where
    pub ready : IsReady may b (from + place) task
    pub at : slice_get works place ≡ Some task.work

  -- So it is with all of them.
  abbrev pub AreListed : List (Task C W T Q A g) → Type 0
  AreListed tasks = (k : ℕ) (d : Task C W T Q A g) → k < length tasks → IsListed k (slice_index_or tasks k d)

module _ {C T Q A W : Type 0} {g : Ghosts C T Q A} (may : W → ℕ → List T → ℕ → Type 0) (so_far done : WorkDone T Q A W)
    (board : Option (Board C T Q A)) (works : List W) (from : ℕ) where
  -- The listed work of a place was done so far, or is over, by the calls of the task's caller.
  pub record IsLent (place : ℕ) (over : Bool) (task : Task C W T Q A g) : Type 0 where
    pub b : Board C T Q A
    pub board_is : board ≡ Some b
    pub first : W
    pub at : slice_get works place ≡ Some first
    pub done_from : IsDoneFrom may (done_so so_far done over) b (from + place) first task
