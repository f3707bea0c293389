-- Callers among others, and what main knew of their calls at some moment.
-- Source: this project's own.
use Rattle.std.specs.Prelude.{◌≡◌, ℕ, List, [], ◌∷◌, ◌⊎◌}
use mathlib.Core.List.{IsPrefix}
use Rattle.board_callers.specs.Callers.{first_calls, other_hands}
use Rattle.turn_board.specs.Hands.{HasCallsOf, first_number}
use Rattle.turn_board.specs.declared.history.Event.{Event}
use Rattle.turn_board.specs.declared.history.Hand.{Hand}
use Rattle.turn_board.specs.declared.view.PassView.{PassView}

module _ {Q A : Type 0} where
  -- A caller with its calls.
  abbrev pub hand : ℕ → List (Event Q A) → Hand Q A
  hand number own = record { number = number; made = own }

  -- It is among these.
  abbrev pub IsAmong : List (Hand Q A) → Hand Q A → Type 0
  IsAmong [] h = ⊥
  IsAmong (g ∷ gs) h = (g ≡ h) ⊎ IsAmong gs h

  -- All of the first are among the second.
  abbrev pub AreAmong : List (Hand Q A) → List (Hand Q A) → Type 0
  AreAmong few many = (h : Hand Q A) → IsAmong few h → IsAmong many h

  -- At a moment, up to which the history was as it stood `then`, main had made its calls and each of the others all of
  -- theirs. The history now goes on from there.
  pub record HadCallsOf (own : List (Event Q A)) (others : List (Hand Q A)) (before now : List (Event Q A)) : Type 0 where
    pub calls : HasCallsOf before (hand 0 own ∷ others)
    pub goes_on : IsPrefix before now

module _ {T Q A : Type 0} where
  -- Main's pass goes on from what it knew: the history grows, main is still the first of its callers and has made the same
  -- calls, and the others are still among its callers.
  pub record KeepsMain (v w : PassView T Q A) : Type 0 where
    pub number : first_number w.hands ≡ first_number v.hands
    pub calls : first_calls w.hands ≡ first_calls v.hands
    pub others : AreAmong (other_hands v.hands) (other_hands w.hands)
    pub past : IsPrefix v.past w.past
    pub own : HasCallsOf v.past v.hands → HasCallsOf w.past w.hands
