-- Numbers and their bits: each makes the other.
use Rattle.std.proofs.Common.{◌≡◌, ℕ, ◌+◌, ◌*◌, ◌/◌, ◌%◌, ◌^◌, ◌<◌, ◌==◌, zero, suc, Bool, true, false, List, [], ◌∷◌, length, get_or, refl, sym, ap, ◌∙◌, arith, pow-suc}
use Rattle.std.specs.Int.{from_bool}
use Rattle.std.proofs.lemmas.Nat.Bits.{bit_at_lowest, bit_at-suc}
use Rattle.cube_values.specs.BitRows.{has_bit}
use Rattle.packed_words.specs.Numbers.{number_of_bits, low_bits}

pub low_length : (width n : ℕ) → length (low_bits width n) ≡ width
low_length zero n = refl
low_length (suc width) n = ap suc (low_length width (n / 2))

-- bit k of a number
pub low_at : (width n k : ℕ) (d : Bool) → k < width → get_or (low_bits width n) k d ≡ has_bit n k
unfolding has_bit
low_at zero n k d h = absurd (omega arith)
low_at (suc width) n zero d h = ap (λ b. b == 1) (sym (bit_at_lowest n))
low_at (suc width) n (suc k) d h = low_at width (n / 2) k d (omega arith) ∙ ap (λ b. b == 1) (sym (bit_at-suc n k))

-- the parity of a number as a bit
odd : (n : ℕ) → from_bool (n % 2 == 1) ≡ n % 2
odd n = by_parity (n % 2) (omega arith) where
  by_parity : (r : ℕ) → r < 2 → from_bool (r == 1) ≡ r
  by_parity zero h = refl
  by_parity (suc zero) h = refl
  by_parity (suc (suc r)) h = absurd (omega arith)

pub number_of_low : (width n : ℕ) → n < 2 ^ width → number_of_bits (low_bits width n) ≡ n
number_of_low zero n h = omega arith
number_of_low (suc width) n h =
    let rest = number_of_low width (n / 2) (omega (arith, pow-suc 2 width)) in
    omega (arith, odd n)

half : (b : Bool) (n : ℕ) → (from_bool b + 2 * n) / 2 ≡ n
half true n = omega arith
half false n = omega arith

parity : (b : Bool) (n : ℕ) → ((from_bool b + 2 * n) % 2 == 1) ≡ b
parity true n = let e : (1 + 2 * n) % 2 ≡ 1 = omega arith in ap (λ r. r == 1) e
parity false n = let e : (0 + 2 * n) % 2 ≡ 0 = omega arith in ap (λ r. r == 1) e

pub low_of_number : (bits : List Bool) (width : ℕ) → length bits ≡ width → low_bits width (number_of_bits bits) ≡ bits
low_of_number [] zero h = refl
low_of_number [] (suc width) h = absurd (omega arith)
low_of_number (b ∷ bits) zero h = absurd (omega arith)
low_of_number (b ∷ bits) (suc width) h =
    λ t. parity b (number_of_bits bits) t ∷ (ap (low_bits width) (half b (number_of_bits bits)) ∙ low_of_number bits width (omega arith)) t

pub number_below : (bits : List Bool) → number_of_bits bits < 2 ^ length bits
number_below [] = omega arith
number_below (true ∷ bits) = omega (arith, number_below bits, pow-suc 2 (length bits))
number_below (false ∷ bits) = omega (arith, number_below bits, pow-suc 2 (length bits))

-- bit k of a number is the bit that it was made of
pub bit_of_number : (bits : List Bool) (k : ℕ) → k < length bits → has_bit (number_of_bits bits) k ≡ get_or bits k false
bit_of_number bits k h =
    sym (low_at (length bits) (number_of_bits bits) k false h) ∙ ap (λ b. get_or b k false) (low_of_number bits (length bits) refl)
