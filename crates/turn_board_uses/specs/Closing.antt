-- Doors that one caller may close, each once.
use Rattle.std.specs.Prelude.{◌≡◌, ℕ, eqb, Bool, true, false, List, [], ◌∷◌}
use mathlib.Core.Option.{some}
use lib.ListN.{get_elem?}
use Rattle.turn_board.specs.declared.history.Event.{Event}
use Rattle.turn_board_uses.specs.declared.doors.Door.{Door}
use Rattle.turn_board_uses.specs.declared.doors.Door.TheVariants.{Open, Closed}
use Rattle.turn_board_uses.specs.declared.doors.Push.{Push}
use Rattle.turn_board_uses.specs.declared.doors.Push.TheVariants.{Close, Try}

-- The door can take the push: only an open door can be closed.
abbrev pub CanTake : Door → Push → Type 0
CanTake door Close = door ≡ Open
CanTake door Try = Unit {0}

-- Closing answers that the door was open and leaves it closed. Trying leaves it as it is, and answers whether it is
-- open.
abbrev pub Moves : Door → Push → Bool → Door → Type 0
Moves x Close a y = (y ≡ Closed) × (a ≡ true)
Moves Open Try a y = (y ≡ Open) × (a ≡ true)
Moves Closed Try a y = (y ≡ Closed) × (a ≡ false)

-- The event does not close the door k.
abbrev pub Spares : Push → Bool → Type 0
Spares Close here = here ≡ false
Spares Try here = Unit {0}

-- None of the events closes the door k.
abbrev pub AllSpare : ℕ → List (Event Push Bool) → Type 0
AllSpare k [] = Unit {0}
AllSpare k (e ∷ es) = Spares e.call (eqb e.cell k) × AllSpare k es

-- Caller 0 may close a door that was open at first and that it has not closed.
abbrev pub FitsDoor : List Door → ℕ → List (Event Push Bool) → ℕ → Push → Type 0
FitsDoor opening by own k Close = (by ≡ 0) × (get_elem? opening k ≡ some Open) × AllSpare k own
FitsDoor opening by own k Try = Unit {0}
