-- A core that opens on a board without rows, and its callers before their first calls.
-- Source: this project's own.
use Rattle.std.specs.Prelude.{◌≡◌, ℕ, List, []}
use Rattle.cube_rounds.specs.Stands.{Kept}
use Rattle.board_callers.specs.Callers.{first_calls}
use Rattle.cube_core.specs.declared.cell.CoreAnswer.{CoreAnswer}
use Rattle.cube_core.specs.declared.cell.CoreCall.{CoreCall}
use Rattle.cube_core.specs.declared.cell.CoreCell.{CoreCell}
use Rattle.core_program.specs.CoreFits.{CoreEntry}
use Rattle.kept_data.specs.KeptFiles.{IsKeptByFile}
use Rattle.linked_shards.specs.declared.cell.CoreShard.{CoreShard}
use Rattle.opened_core.specs.Openings.{AreCellsOver, OpenOver}
use Rattle.turn_board.specs.Hands.{first_number}
use Rattle.turn_board.specs.Passes.{IsPassOf, hands_of, view_of}
use Rattle.turn_board.specs.declared.board.Board.{Board}
use Rattle.turn_board.specs.declared.cells.Cells.{Ghosts}
use Rattle.turn_board.specs.declared.pass.Pass.{Pass}

-- The cells of a core of so many shards and sessions over what a file keeps.
pub record AreCellsOfCore (shards sessions : ℕ) (cells : List (CoreCell CoreShard)) : Type 0 where
  pub kept : Kept
  pub by_file : IsKeptByFile kept
  pub over : AreCellsOver kept shards sessions cells
  pub opens : OpenOver kept shards sessions cells

-- A caller of a core of two shards and three sessions, by its number, that has made no call.
pub record BeginsAs (number : ℕ) (cells : List (CoreCell CoreShard)) (caller : ℕ) (own : List CoreEntry) : Type 0 where
  pub core : AreCellsOfCore 2 3 cells
  pub by_number : caller ≡ number
  pub new : own ≡ []

-- A pass of such a caller.
pub record IsNewCaller {C : Type 0} {g : Ghosts C (CoreCell CoreShard) CoreCall CoreAnswer}
    (b : Board C (CoreCell CoreShard) CoreCall CoreAnswer) (number : ℕ)
    (p : Pass C (CoreCell CoreShard) CoreCall CoreAnswer g) : Type 0 where
  pub pass : IsPassOf b p
  pub begins : BeginsAs number (view_of p).opening (first_number (hands_of p)) (first_calls (hands_of p))
