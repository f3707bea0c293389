use Rattle.std.proofs.Common.{◌≡◌, take, drop}
use mathlib.Core.List.{reverse}
use Rattle.turn_board.proofs.numbers.Chain.cut.Given as goal

abbrev pub invariant-loop : goal.invariant-loop
invariant-loop l = (reverse l.front ≡ take l.counter l.fn.self) × (l.back ≡ drop l.counter l.fn.self)
