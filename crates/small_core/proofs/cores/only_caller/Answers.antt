use Rattle.std.proofs.Common.{ap, sym, subst}
use Rattle.board_callers.specs.Callers.{first_calls}
use Rattle.turn_board.specs.Hands.{first_number}
use Rattle.small_core.specs.Openings.{AreCellsOfCore}
use Rattle.small_core.proofs.cores.only_caller.Goals as goal

pub returns : goal.returns
returns c = record {
  pass = c.requires.pass;
  begins = record {
    core = subst (AreCellsOfCore 2 3) (sym c.requires.pass.opening) c.requires.cells;
    by_number = ap first_number c.requires.hands;
    new = ap first_calls c.requires.hands;
  };
}
