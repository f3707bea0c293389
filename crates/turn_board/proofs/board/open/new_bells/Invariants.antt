use Rattle.std.proofs.Common.{◌≡◌, ◌≤◌}
use Rattle.std.specs.Prelude.{vec_len, vec_capacity}
use Rattle.turn_board.proofs.board.open.new_bells.Given as goal

abbrev pub invariant-loop : goal.invariant-loop
invariant-loop l = (vec_len l.bells ≡ l.counter) × (l.count ≤ vec_capacity l.bells)
