-- The history of a board: one list of events that all callers' calls stand in.
-- Linearizability: A Correctness Condition for Concurrent Objects (Herlihy and Wing, 1990).
use Rattle.std.specs.Prelude.{◌≡◌, ℕ, eqb, Bool, List, [], ◌∷◌, ◌++◌}
use Rattle.std.specs.List.{filter}
use lib.ListN.{get_elem?}
use mathlib.Core.Option.{some}
use Rattle.turn_board.specs.declared.history.Event.{Event}

-- The cell before a call, the call, its answer, and a cell that it may leave.
abbrev pub CellStep : Type 0 → Type 0 → Type 0 → Type 1
CellStep T Q A = T → Q → A → T → Type 0

-- Of the opening cells, a caller's number, its own earlier calls, and the cell and the call that it makes next.
abbrev pub CallFit : Type 0 → Type 0 → Type 0 → Type 1
CallFit T Q A = List T → ℕ → List (Event Q A) → ℕ → Q → Type 0

module _ {Q A : Type 0} where
  -- The event of a call by this caller on this cell.
  abbrev pub event : ℕ → ℕ → Q → A → Event Q A
  event by k call answer = record { caller = by; cell = k; call = call; answer = answer }

  -- The call was on this cell.
  abbrev pub is_on_cell : ℕ → Event Q A → Bool
  is_on_cell k e = eqb e.cell k

  -- The call was made by this caller.
  abbrev pub is_by_caller : ℕ → Event Q A → Bool
  is_by_caller by e = eqb e.caller by

  -- The history's part for a cell.
  abbrev pub of_cell : ℕ → List (Event Q A) → List (Event Q A)
  of_cell k log = filter (is_on_cell k) log

  -- The history's part for a caller.
  abbrev pub of_caller : ℕ → List (Event Q A) → List (Event Q A)
  of_caller by log = filter (is_by_caller by) log

  -- Of two prefixes of one list, the longer.
  abbrev pub longer_list : List (Event Q A) → List (Event Q A) → List (Event Q A)
  longer_list [] ys = ys
  longer_list (x ∷ xs) [] = x ∷ xs
  longer_list (x ∷ xs) (y ∷ ys) = x ∷ longer_list xs ys

module _ {T Q A : Type 0} (step : CellStep T Q A) where
  -- The calls lead from the cell x to the cell y.
  abbrev pub LeadsTo : T → List (Event Q A) → T → Type 0
  LeadsTo x [] y = x ≡ y
  LeadsTo x (e ∷ es) y = (z : T) × step x e.call e.answer z × LeadsTo z es y

module _ {T Q A : Type 0} (fits : CallFit T Q A) where
  -- Each of the later calls fits its caller's calls before it, where the earlier ones were made first.
  abbrev pub AllFitAfter : List T → List (Event Q A) → List (Event Q A) → Type 0
  AllFitAfter opening earlier [] = Unit {0}
  AllFitAfter opening earlier (e ∷ es) =
      fits opening e.caller (of_caller e.caller earlier) e.cell e.call × AllFitAfter opening (earlier ++ e ∷ []) es

module _ {T Q A : Type 0} (step : CellStep T Q A) (fits : CallFit T Q A) where
  -- A run of the step from the opening cells, in which each call fitted.
  pub record IsHistory (opening : List T) (log : List (Event Q A)) : Type 0 where
    pub fitting : AllFitAfter fits opening [] log
    pub leads : (k : ℕ) (x : T) → get_elem? opening k ≡ some x → (y : T) × LeadsTo step x (of_cell k log) y

  -- In a history, a cell can take each further call that fits.
  abbrev pub IsSafe : (T → Q → Type 0) → Type 0
  IsSafe can = (opening : List T) (log : List (Event Q A)) (by k : ℕ) (call : Q) (x y : T)
      → IsHistory opening log → get_elem? opening k ≡ some x → LeadsTo step x (of_cell k log) y
      → fits opening by (of_caller by log) k call → can y call
