-- The pasts of cells: the histories that lead to them. Who makes calls one after the other has no board, and keeps none.
-- Source: this project's own.
use Rattle.std.specs.Prelude.{◌≡◌, ℕ, ◌<◌, List, [], ◌∷◌, ◌++◌, length}
use lib.ListN.{get_elem?}
use mathlib.Core.Option.{some}
use Rattle.turn_board.specs.History.{CellStep, CallFit, event, of_cell, of_caller, LeadsTo, AllFitAfter}
use Rattle.turn_board.specs.declared.history.Event.{Event}

module _ {T Q A : Type 0} (step : CellStep T Q A) (fits : CallFit T Q A) where
  -- A run of the step from the opening cells, in which each call fitted, leaves these cells.
  pub record IsPast (opening : List T) (log : List (Event Q A)) (cells : List T) : Type 0 where
    pub long : length cells ≡ length opening
    pub fitting : AllFitAfter fits opening [] log
    pub leads : (k : ℕ) (x y : T) → get_elem? opening k ≡ some x → get_elem? cells k ≡ some y
        → LeadsTo step x (of_cell k log) y

  -- The cells have a past after which the call fits, and the cell of the call is one of them.
  pub record FitsAfterPast (cells : List T) (caller k : ℕ) (call : Q) : Type 0 where
    pub there : k < length cells
    pub opening : List T
    pub log : List (Event Q A)
    pub past : IsPast opening log cells
    pub next : fits opening caller (of_caller caller log) k call

  -- Each past after which the call fits, with this entry at its end, is a past of the cells afterwards.
  abbrev pub PastsGrow : List T → ℕ → ℕ → Q → A → List T → Type 0
  PastsGrow cells caller k call answer after = (opening : List T) (log : List (Event Q A)) → IsPast opening log cells
      → fits opening caller (of_caller caller log) k call
      → IsPast opening (log ++ event caller k call answer ∷ []) after
