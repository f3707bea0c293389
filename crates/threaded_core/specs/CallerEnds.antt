-- How the calls of a caller end in a history, by a moment at which it had made all of them.
-- Source: this project's own.
use Rattle.std.specs.Prelude.{◌≡◌, ℕ, Bool, List}
use Rattle.turn_board.specs.History.{of_caller}
use Rattle.turn_board.specs.declared.history.Event.{Event}
use Rattle.threaded_callers.specs.Ends.{EndsAs, WorkDone}

module _ {T Q A W : Type 0} (done : WorkDone T Q A W) (opening : List T) where
  -- The caller had made all its calls by a moment of the history. Where its work began they did it; else there are
  -- none, and the work is as it was.
  pub record EndsBy (moment log : List (Event Q A)) (began : Bool) (caller : ℕ) (before after : W) : Type 0 where
    pub all : of_caller caller moment ≡ of_caller caller log
    pub ends : EndsAs done opening began caller (of_caller caller log) before after
