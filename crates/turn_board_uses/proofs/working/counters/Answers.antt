use Rattle.std.proofs.Common.{ℕ, length, ap, ◌∙◌}
use Rattle.turn_board_uses.specs.declared.counter.CounterCall.{CounterCall}
use Rattle.turn_board_uses.proofs.Callers.{new_length}
use Rattle.turn_board_uses.proofs.working.counters.Goals as goal

pub returns-in-Ok-clause-hands : goal.returns-in-Ok-clause-hands
returns-in-Ok-clause-hands c = let f = c.in-Ok.ensures.first in
    ap length f.hands ∙ new_length CounterCall ℕ 0 c.args.callers
