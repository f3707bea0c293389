use Rattle.turn_board_uses.proofs.Adding.{adds_up}
use Rattle.turn_board_uses.proofs.counter.adds_up.Goals as goal

pub returns : goal.returns
returns c = adds_up
