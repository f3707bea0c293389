-- How many callers a first pass has.
use Rattle.std.proofs.Common.{◌≡◌, ℕ, zero, suc, length, refl, ap}
use Rattle.turn_board.specs.Hands.{new_hands}

pub new_length : (Q A : Type 0) (from count : ℕ) → length (new_hands {Q = Q} {A = A} from count) ≡ count
new_length Q A from zero = refl
new_length Q A from (suc count) = ap suc (new_length Q A (suc from) count)
