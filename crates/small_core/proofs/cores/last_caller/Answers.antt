use Rattle.std.proofs.Common.{◌∙◌, ap, sym, subst}
use Rattle.board_callers.specs.Callers.{first_calls}
use Rattle.turn_board.specs.Hands.{all_but, first_number, last_of}
use Rattle.cube_core.specs.declared.cell.CoreAnswer.{CoreAnswer}
use Rattle.cube_core.specs.declared.cell.CoreCall.{CoreCall}
use Rattle.small_core.specs.Openings.{AreCellsOfCore}
use Rattle.small_core.proofs.NewHands.{all-but-last, the-last}
use Rattle.small_core.proofs.cores.last_caller.Goals as goal

pub returns-clause-hands : goal.returns-clause-hands
returns-clause-hands c =
    c.split.ensures.kept.hands ∙ ap (all_but 1) c.requires.hands ∙ all-but-last CoreCall CoreAnswer c.args._before

pub returns-clause-last : goal.returns-clause-last
returns-clause-last c =
    let hands =
    c.split.ensures.given.hands ∙ ap (last_of 1) c.requires.hands ∙ the-last CoreCall CoreAnswer c.args._before
    in
    record {
      pass = c.split.ensures.passes.1;
      begins = record {
        core = subst (AreCellsOfCore 2 3) (sym c.split.ensures.passes.1.opening) c.requires.cells;
        by_number = ap first_number hands;
        new = ap first_calls hands;
      };
    }
