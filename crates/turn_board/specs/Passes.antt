-- What a clause says of a board and its passes.
use Rattle.std.specs.Prelude.{◌≡◌, ◌≢◌, ℕ, List, [], length}
use Rattle.turn_board.specs.declared.cells.Cells.{Ghosts}
use Rattle.turn_board.specs.declared.history.Hand.{Hand}
use Rattle.turn_board.specs.declared.view.PassView.{PassView}
use Rattle.turn_board.specs.declared.board.Board.{Board}
use Rattle.turn_board.specs.declared.pass.Pass.{Pass}
use Rattle.turn_board.specs.Calls.{FitsNext, IsCalled, IsGathered, IsShut}

module _ {C T Q A : Type 0} where
  -- The cells that the board opened with, and the number of its callers.
  abbrev pub opening_of : Board C T Q A → List T
  opening_of b = b.table.shared.key.cells.value.items

  abbrev pub callers_of : Board C T Q A → ℕ
  callers_of b = b.table.shared.key.callers

  -- How many cells the board has.
  abbrev pub cells_of : Board C T Q A → ℕ
  cells_of b = length (opening_of b)

module _ {C T Q A : Type 0} {g : Ghosts C T Q A} where
  -- What the pass knows.
  abbrev pub view_of : Pass C T Q A g → PassView T Q A
  view_of p = p.seat.me.0

  -- Its callers, each with its own calls.
  abbrev pub hands_of : Pass C T Q A g → List (Hand Q A)
  hands_of p = (view_of p).hands

  -- It is a pass of this board with some caller, and knows the cells that the board opened with.
  pub record IsPassOf (b : Board C T Q A) (p : Pass C T Q A g) : Type 0 where
    pub table : p.seat.table_id ≡ b.table.shared.table_id
    pub some : hands_of p ≢ []
    pub opening : (view_of p).opening ≡ opening_of b

  -- The pass may make this call on this cell next.
  abbrev pub MayCall : Pass C T Q A g → ℕ → Q → Type 0
  MayCall p k call = FitsNext g.fits (view_of p) k call

  -- The call was answered so.
  abbrev pub HasCalled : Pass C T Q A g → ℕ → Q → A → Pass C T Q A g → Type 0
  HasCalled p k call answer after = IsCalled g.step g.fits (view_of p) k call answer (view_of after)

  -- The pass has taken the other in.
  abbrev pub HasGathered : Pass C T Q A g → Pass C T Q A g → Pass C T Q A g → Type 0
  HasGathered p other after = IsGathered g.step g.fits (view_of p) (view_of other) (view_of after)

  -- The cells that the board leaves where the pass shuts it.
  abbrev pub AreLeft : Board C T Q A → Pass C T Q A g → List T → Type 0
  AreLeft b p cells = IsShut g.step g.fits (callers_of b) (opening_of b) (view_of p) cells
