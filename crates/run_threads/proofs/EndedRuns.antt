-- What the cells that a board leaves are, by their numbers.
use Rattle.std.proofs.Common.{◌≡◌, ℕ, ◌<◌, List, sym, ap, subst}
use lib.ListN.{get_elem?}
use mathlib.Core.Option.{Option, some, none}
use Rattle.turn_board.proofs.Places.{inside, there}
use Rattle.turn_board.specs.History.{CallFit, CellStep, IsHistory, LeadsTo, of_cell}
use Rattle.turn_board.specs.declared.history.Event.{Event}
use Rattle.threaded_callers.specs.Ends.{IsHistoryTo}

module _ {X : Type 0} where
  abbrev value_or : X → Option X → X
  value_or d (some x) = x
  value_or d none = d

  -- The value at a place, and the other one where there is none.
  abbrev pub value_at : X → List X → ℕ → X
  value_at d xs k = value_or d (get_elem? xs k)

  pub value_is : (d : X) (xs : List X) (k : ℕ) (x : X) → get_elem? xs k ≡ some x → value_at d xs k ≡ x
  value_is d xs k x at = ap (value_or d) at

module _ {T Q A : Type 0} (step : CellStep T Q A) (fits : CallFit T Q A) (callers : ℕ) (opening cells : List T)
    (log : List (Event Q A)) (history : IsHistoryTo step fits callers opening cells log) where
  -- A cell with which the board opened is left, and the other way round.
  left : (k : ℕ) (x : T) → get_elem? opening k ≡ some x → (y : T) × (get_elem? cells k ≡ some y)
  left k x at = there cells k (subst (λ n. k < n) (sym history.long) (inside opening k x at))

  pub opened : (k : ℕ) (y : T) → get_elem? cells k ≡ some y → (x : T) × (get_elem? opening k ≡ some x)
  opened k y at = there opening k (subst (λ n. k < n) history.long (inside cells k y at))

  pub is_history : IsHistory step fits opening log
  is_history = record {
    fitting = history.fitting;
    leads = λ k x at. let y = left k x at in (y.0, history.leads k x y.0 at y.1);
  }

  pub leads_to : (d : T) (k : ℕ) (x : T) → get_elem? opening k ≡ some x
      → LeadsTo step x (of_cell k log) (value_at d cells k)
  leads_to d k x at = let y = left k x at in
      subst (λ z. LeadsTo step x (of_cell k log) z) (sym (value_is d cells k y.0 y.1)) (history.leads k x y.0 at y.1)
