-- How far a seat is with a call, as the board's own functions say it.
use Rattle.std.specs.Prelude.{◌≡◌, ℕ, ◌%◌, ◌^◌, ◌≢◌, List, [], ◌∷◌, Option, Some}
use Rattle.atomic_table.specs.Table.{Me}
use Rattle.turn_board.specs.History.{CellStep, CallFit}
use Rattle.turn_board.specs.declared.history.Event.{Event}
use Rattle.turn_board.specs.declared.lane.Lane.{Lane}
use Rattle.turn_board.specs.declared.view.Stage.TheVariants.{Unqueued, Queued, Turn}
use Rattle.turn_board.specs.declared.view.PassView.{PassView}
use Rattle.turn_board.specs.Hands.{FitsFirst}
use Rattle.turn_board.specs.Steps.{view_at_stage, shut_view, HasJoined}

module _ {T Q A : Type 0} where
  -- The seat has callers, and no ticket, slot or other past.
  pub record IsUnqueued (m : Me (Lane T) (PassView T Q A)) : Type 0 where
    pub stage : m.0.stage ≡ Unqueued
    pub slots : m.1 ≡ []
    pub hands : m.0.hands ≢ []
    pub also : m.0.also ≡ []

  -- The seat has drawn a ticket of the cell, and the word gave this number.
  pub record IsQueued (k number : ℕ) (m m' : Me (Lane T) (PassView T Q A)) : Type 0 where
    pub ticket : ℕ
    pub number_is : number ≡ ticket % 2 ^ 64
    pub seat : m' ≡ (view_at_stage m.0 (Queued k ticket), m.1)

  -- The seat has the turn of the cell, whose value and slot these are.
  pub record IsAtTurn (k : ℕ) (value : T) (lane : Lane T) (m m' : Me (Lane T) (PassView T Q A)) : Type 0 where
    pub ticket : ℕ
    pub view : m'.0 ≡ view_at_stage m.0 (Turn k ticket value)
    pub slots : m'.1 ≡ (k, lane) ∷ []

  -- The seat is idle as before, and keeps turns for good.
  pub record IsKeeper (m m' : Me (Lane T) (PassView T Q A)) : Type 0 where
    pub stage : m'.0.stage ≡ Unqueued
    pub slots : m'.1 ≡ []
    pub hands : m'.0.hands ≡ m.0.hands
    pub past : m'.0.past ≡ m.0.past
    pub also : m'.0.also ≡ m.0.also
    pub opening : m'.0.opening ≡ m.0.opening

  -- The seat keeps one more turn for good.
  pub record IsKept (m m' : Me (Lane T) (PassView T Q A)) : Type 0 where
    pub value : T
    pub seat : m' ≡ (shut_view m.0 value, m.1)

module _ {T Q A : Type 0} (can : T → Q → Type 0) (fits : CallFit T Q A) where
  -- The seat has the turn of the cell, and its value can take each call that fits.
  pub record TakesTurn (k : ℕ) (m m' : Me (Lane T) (PassView T Q A)) : Type 0 where
    pub lane : Lane T
    pub served : IsAtTurn k lane.value lane m m'
    pub may : (call : Q) → FitsFirst fits m.0.opening m.0.hands k call → can lane.value call

module _ {T Q A : Type 0} (step : CellStep T Q A) where
  -- The slot of the cell is out, and the call was made on the value in it.
  pub record HasStepped (k : ℕ) (call : Q) (answer : A) (slots slots' : List (ℕ × Lane T)) : Type 0 where
    pub lane : Lane T
    pub lane' : Lane T
    pub before : slots ≡ (k, lane) ∷ []
    pub after : slots' ≡ (k, lane') ∷ []
    pub stepped : step lane.value call answer lane'.value

  -- The seat has the turn of the cell, on whose value the call was made.
  pub record HasAnswered (k : ℕ) (call : Q) (answer : A) (m : Me (Lane T) (PassView T Q A)) : Type 0 where
    pub ticket : ℕ
    pub value : T
    pub lane : Lane T
    pub turn : m.0.stage ≡ Turn k ticket value
    pub slots : m.1 ≡ (k, lane) ∷ []
    pub stepped : step value call answer lane.value

module _ {T Q A : Type 0} (step : CellStep T Q A) (fits : CallFit T Q A) where
  -- The event of this name has joined the history, and the seat is idle again.
  pub record HasPassedOn (named : Option (Event Q A)) (m m' : Me (Lane T) (PassView T Q A)) : Type 0 where
    pub made : Event Q A
    pub is : named ≡ Some made
    pub joined : HasJoined step fits made m m'
