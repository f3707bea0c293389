-- The callers of a pass, each with its own calls.
use Rattle.std.specs.Prelude.{◌≡◌, ℕ, suc, zero, ◌-◌, ◌<◌, ◌≤◌, List, [], ◌∷◌, ◌++◌, length, take, drop, Option, Some, None}
use Rattle.turn_board.specs.declared.history.Event.{Event}
use Rattle.turn_board.specs.declared.history.Hand.{Hand}
use Rattle.turn_board.specs.History.{event, of_caller, CallFit}

module _ {Q A : Type 0} where
  -- The number of a caller.
  abbrev pub hand_number : Hand Q A → ℕ
  hand_number h = h.number

  -- The least number, which a pass with these callers acts as.
  abbrev pub first_number : List (Hand Q A) → ℕ
  first_number [] = 0
  first_number (h ∷ hs) = h.number

  -- All callers but the last, so many, and these last.
  abbrev pub all_but : ℕ → List (Hand Q A) → List (Hand Q A)
  all_but count hs = take (length hs - count) hs

  abbrev pub last_of : ℕ → List (Hand Q A) → List (Hand Q A)
  last_of count hs = drop (length hs - count) hs

  -- So many callers with no calls, from a number on.
  abbrev pub new_hands : ℕ → ℕ → List (Hand Q A)
  new_hands from zero = []
  new_hands from (suc count) = record { number = from; made = [] } ∷ new_hands (suc from) count

  -- The own calls of each caller are those that the history has of it.
  abbrev pub HasCallsOf : List (Event Q A) → List (Hand Q A) → Type 0
  HasCallsOf log [] = Unit {0}
  HasCallsOf log (h ∷ hs) = (of_caller h.number log ≡ h.made) × HasCallsOf log hs

  -- The first caller has made a further call.
  abbrev pub hands_with_call : List (Hand Q A) → Event Q A → List (Hand Q A)
  hands_with_call [] e = []
  hands_with_call (h ∷ hs) e = record { number = h.number; made = h.made ++ e ∷ [] } ∷ hs

  -- The event of a call that the first caller makes.
  abbrev pub event_of : List (Hand Q A) → ℕ → Q → A → Option (Event Q A)
  event_of [] k call answer = None
  event_of (h ∷ hs) k call answer = Some (event h.number k call answer)

  module _ (callers : ℕ) (log : List (Event Q A)) (owner : ℕ → ℕ) (j : ℕ) where
    -- The caller's number is between these, it belongs to the seat j, and the history has its own calls.
    pub record IsOwn (low : ℕ) (h : Hand Q A) : Type 0 where
      pub from : low ≤ h.number
      pub below : h.number < callers
      pub ours : owner h.number ≡ j
      pub made : of_caller h.number log ≡ h.made

    -- All are so, and their numbers rise from one on.
    abbrev pub Owns : ℕ → List (Hand Q A) → Type 0
    Owns low [] = Unit {0}
    Owns low (h ∷ hs) = IsOwn low h × Owns (suc h.number) hs

module _ {T Q A : Type 0} (fits : CallFit T Q A) (opening : List T) where
  -- The first caller may make this call on this cell.
  abbrev pub FitsFirst : List (Hand Q A) → ℕ → Q → Type 0
  FitsFirst [] k call = ⊥
  FitsFirst (h ∷ hs) k call = fits opening h.number h.made k call
