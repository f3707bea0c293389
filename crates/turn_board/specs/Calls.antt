-- What the calls of a board promise. Each speaks of what a pass knew before, and of what it knows after.
use Rattle.std.specs.Prelude.{◌≡◌, ℕ, ◌≤◌, List, [], ◌∷◌, ◌++◌, length, Some}
use mathlib.Core.List.{IsPrefix}
use mathlib.Core.Option.{some}
use lib.ListN.{get_elem?}
use Rattle.turn_board.specs.declared.history.Event.{Event}
use Rattle.turn_board.specs.declared.history.Hand.{Hand}
use Rattle.turn_board.specs.declared.view.PassView.{PassView}
use Rattle.turn_board.specs.History.{of_cell, of_caller, longer_list, LeadsTo, AllFitAfter, IsHistory, CellStep, CallFit}
use Rattle.turn_board.specs.Hands.{new_hands, hand_number, hands_with_call, event_of, HasCallsOf, FitsFirst}
use Rattle.turn_board.specs.Rising.{rising_union}

module _ {T Q A : Type 0} where
  -- The first pass, with all callers. There is no history yet.
  pub record IsFirst (callers : ℕ) (cells : List T) (v : PassView T Q A) : Type 0 where
    pub hands : v.hands ≡ new_hands 0 callers
    pub past : v.past ≡ []
    pub opening : v.opening ≡ cells

  -- The pass has this part of the other's callers, and knows what the other knew.
  pub record HasPart (part : List (Hand Q A) → List (Hand Q A)) (v w : PassView T Q A) : Type 0 where
    pub hands : w.hands ≡ part v.hands
    pub past : w.past ≡ v.past
    pub opening : w.opening ≡ v.opening

module _ {T Q A : Type 0} (fits : CallFit T Q A) where
  -- The pass may make this call next.
  abbrev pub FitsNext : PassView T Q A → ℕ → Q → Type 0
  FitsNext v k call = FitsFirst fits v.opening v.hands k call

module _ {T Q A : Type 0} (step : CellStep T Q A) (fits : CallFit T Q A) where
  -- The call was answered so. The history goes on from all that the pass knew, by the calls of others, and ends with
  -- this call. Each call in it fitted, and of each caller of the pass it has the own calls and no others.
  pub record IsCalled (v : PassView T Q A) (k : ℕ) (call : Q) (answer : A) (w : PassView T Q A) : Type 0 where
    pub made : Event Q A
    pub is : event_of v.hands k call answer ≡ Some made
    pub more : List (Event Q A)
    pub past : w.past ≡ (v.past ++ more) ++ made ∷ []
    pub hands : w.hands ≡ hands_with_call v.hands made
    pub opening : w.opening ≡ v.opening
    pub run : IsHistory step fits v.opening w.past
    pub own : HasCallsOf w.past w.hands

  -- The pass has the callers of both, and knows a history of which each knew a prefix.
  pub record IsGathered (v other w : PassView T Q A) : Type 0 where
    pub past : w.past ≡ longer_list v.past other.past
    pub hands : w.hands ≡ rising_union hand_number v.hands other.hands
    pub opening : w.opening ≡ v.opening
    pub first : IsPrefix v.past w.past
    pub second : IsPrefix other.past w.past
    pub run : IsHistory step fits v.opening w.past
    pub own : HasCallsOf w.past w.hands

  -- What a board leaves that a pass shuts: there is one history in which each call fitted, and it leaves the cells.
  -- What the pass knew is a prefix of it. Of each caller of the pass it has the own calls and no others, and it has no
  -- caller but the board's.
  pub record IsShut (callers : ℕ) (opening : List T) (v : PassView T Q A) (cells : List T) : Type 0 where
    pub long : length cells ≡ length opening
    pub log : List (Event Q A)
    pub fitting : AllFitAfter fits opening [] log
    pub leads : (k : ℕ) (x y : T) → get_elem? opening k ≡ some x → get_elem? cells k ≡ some y
        → LeadsTo step x (of_cell k log) y
    pub past : IsPrefix v.past log
    pub own : HasCallsOf log v.hands
    pub others : (by : ℕ) → callers ≤ by → of_caller by log ≡ []
