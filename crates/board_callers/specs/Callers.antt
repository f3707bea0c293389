-- What is told of a caller: its own calls, and a history that has them.
-- Source: this project's own; linearizability (Herlihy and Wing, 1990) makes one list of the calls of all threads.
use Rattle.std.specs.Prelude.{◌≡◌, ℕ, List, [], ◌∷◌}
use Rattle.turn_board.specs.History.{CellStep, CallFit, IsHistory, of_caller}
use Rattle.turn_board.specs.declared.history.Event.{Event}
use Rattle.turn_board.specs.declared.history.Hand.{Hand}

module _ {Q A : Type 0} where
  -- The calls of the caller that a pass acts as, and its other callers.
  abbrev pub first_calls : List (Hand Q A) → List (Event Q A)
  first_calls [] = []
  first_calls (h ∷ hs) = h.made

  abbrev pub other_hands : List (Hand Q A) → List (Hand Q A)
  other_hands [] = []
  other_hands (h ∷ hs) = hs

-- There is a history that has these calls of the caller, and no others of it.
pub record HasHistoryOf {T Q A : Type 0} (step : CellStep T Q A) (fits : CallFit T Q A) (opening : List T) (number : ℕ)
    (own : List (Event Q A)) : Type 0 where
  pub log : List (Event Q A)
  pub run : IsHistory step fits opening log
  pub mine : of_caller number log ≡ own
