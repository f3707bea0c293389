-- Tasks: a work, and the pass of the caller that does it.
-- Source: this project's own.
use Rattle.std.specs.Prelude.{◌≡◌, ℕ, ◌+◌, ◌<◌, List, [], ◌∷◌, length, slice_index_or, Some}
use Rattle.std.specs.Option.{option_map_or}
use Rattle.board_callers.specs.Callers.{first_calls, other_hands}
use Rattle.turn_board.specs.Hands.{first_number}
use Rattle.turn_board.specs.Passes.{IsPassOf, callers_of, opening_of, view_of}
use Rattle.turn_board.specs.Steps.{spent_view}
use Rattle.turn_board.specs.declared.board.Board.{Board}
use Rattle.turn_board.specs.declared.cells.Cells.{Ghosts}
use Rattle.turn_board.specs.declared.history.Event.{Event}
use Rattle.turn_board.specs.declared.history.Hand.{Hand}
use Rattle.turn_board.specs.declared.pass.Pass.{Pass}
use Rattle.turn_board.specs.declared.view.PassView.{PassView}
use Rattle.threaded_callers.specs.Hands.{hand}
use Rattle.threaded_callers.specs.declared.task.Task.{Task}

module _ {C T Q A W : Type 0} {g : Ghosts C T Q A} where
  -- What the pass of the task knows: nothing where it has none.
  abbrev pub view_in : Task C W T Q A g → PassView T Q A
  view_in task = option_map_or (λ p. view_of p) task.pass spent_view

  -- The callers of its pass.
  abbrev pub hands_in : Task C W T Q A g → List (Hand Q A)
  hands_in task = (view_in task).hands

  -- The task has a pass of the board.
  pub record IsTaskOf (b : Board C T Q A) (task : Task C W T Q A g) : Type 0 where
    pub pass : Pass C T Q A g
    pub is : task.pass ≡ Some pass
    pub of : IsPassOf b pass

  -- The task has a pass of the board, with these callers.
  pub record HasHands (b : Board C T Q A) (hands : List (Hand Q A)) (task : Task C W T Q A g) : Type 0 where
    pub of : IsTaskOf b task
    pub hands_are : hands_in task ≡ hands

  -- Its pass acts for this caller alone, which has made these calls.
  abbrev pub IsHeldBy : Board C T Q A → ℕ → List (Event Q A) → Task C W T Q A g → Type 0
  IsHeldBy b number own task = HasHands b (hand number own ∷ []) task

  -- Main has made these calls, and is the first of the callers of its pass.
  pub record IsMain (b : Board C T Q A) (own : List (Event Q A)) (task : Task C W T Q A g) : Type 0 where
    pub of : IsTaskOf b task
    pub number : first_number (hands_in task) ≡ 0
    pub calls : first_calls (hands_in task) ≡ own

  -- The callers of its pass besides main.
  abbrev pub others_in : Task C W T Q A g → List (Hand Q A)
  others_in task = other_hands (hands_in task)

  module _ (may : W → ℕ → List T → ℕ → Type 0) (b : Board C T Q A) where
    -- A caller that has made no call may begin with the work.
    pub record IsReady (number : ℕ) (task : Task C W T Q A g) : Type 0 where
      pub held : IsHeldBy b number [] task
      pub may_begin : may task.work (callers_of b) (opening_of b) number

    -- So it is with all tasks, whose callers are numbered from one on.
    abbrev pub AreReady : ℕ → List (Task C W T Q A g) → Type 0
    AreReady from tasks = (k : ℕ) (d : Task C W T Q A g) → k < length tasks → IsReady (from + k) (slice_index_or tasks k d)

  module _ (done : W → W → List T → ℕ → List (Event Q A) → Type 0) (b : Board C T Q A) where
    -- The work was done by the calls of this caller.
    pub record HasWorked (number : ℕ) (before after : Task C W T Q A g) : Type 0 where
      pub own : List (Event Q A)
      pub held : IsHeldBy b number own after
      pub work : done before.work after.work (opening_of b) number own

    -- It was, whichever caller the task had.
    abbrev pub IsWorked : Task C W T Q A g → Task C W T Q A g → Type 0
    IsWorked before after = (number : ℕ) → IsHeldBy b number [] before → HasWorked number before after

  module _ (may : W → ℕ → List T → ℕ → Type 0) (done : W → W → List T → ℕ → List (Event Q A) → Type 0)
      (b : Board C T Q A) where
    -- What was to be done by a work that might begin was done so far by the calls of this caller.
    pub record IsDoneFrom (number : ℕ) (first : W) (task : Task C W T Q A g) : Type 0 where
      pub own : List (Event Q A)
      pub held : IsHeldBy b number own task
      pub may_begin : may first (callers_of b) (opening_of b) number
      pub work : done first task.work (opening_of b) number own

    -- Some work was.
    abbrev pub IsDoneSoFar : Task C W T Q A g → Type 0
    IsDoneSoFar task = (number : ℕ) × (first : W) × IsDoneFrom number first task

    -- Whichever was, it still is.
    abbrev pub GoesOn : Task C W T Q A g → Task C W T Q A g → Type 0
    GoesOn before after = (number : ℕ) (first : W) → IsDoneFrom number first before → IsDoneFrom number first after

  module _ (stopped : W → W → ℕ → List T → List (Event Q A) → Type 0) (b : Board C T Q A) where
    -- Main has stopped the flusher.
    pub record HasStopped (before after : Task C W T Q A g) : Type 0 where
      pub own : List (Event Q A)
      pub main : IsMain b own after
      pub work : stopped before.work after.work (callers_of b) (opening_of b) own
