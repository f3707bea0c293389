-- Numbers by their bits, the lowest first.
use Rattle.std.specs.Prelude.{ℕ, ◌+◌, ◌*◌, ◌/◌, ◌%◌, ◌==◌, zero, suc, Bool, List, [], ◌∷◌}
use Rattle.std.specs.Int.{from_bool}

-- The number that bits stand for.
abbrev pub number_of_bits : List Bool → ℕ
number_of_bits [] = 0
number_of_bits (bit ∷ bits) = from_bool bit + 2 * number_of_bits bits

-- The lowest bits of a number, so many.
abbrev pub low_bits : ℕ → ℕ → List Bool
low_bits zero n = []
low_bits (suc width) n = (n % 2 == 1) ∷ low_bits width (n / 2)
