use Rattle.std.proofs.Common.{arith}
use Rattle.round_reading.proofs.entries.take_brick.Goals as goal

pub overflow_add-least : goal.overflow_add-least
overflow_add-least c = omega (arith, c.brick.ensures, c.in_ok-brick.ensures.small)
