-- What `|` and `&` with a mask do to the bits of a word.
use Rattle.std.proofs.Common.{◌≡◌, ℕ, ◌+◌, ◌-◌, ◌*◌, ◌^◌, ◌%◌, ◌<◌, ◌≤◌, ◌⊎◌, ◌==◌, true, false, bit_and, bit_or, ap, ◌∙◌, w64, arith, lit<, inl, inr}
use Rattle.std.specs.Int.{bit_at}
use Rattle.std.proofs.lemmas.Bool.Decides.{nat_tests}
use Rattle.std.proofs.lemmas.Nat.{one_shl, pow_pos}
use Rattle.std.proofs.Math.Nat.{pow-le-pow_right}
use Rattle.std.proofs.lemmas.Nat.Bits.{bit_at_or, bit_at_and, bit_at_not, bit_at-lt, bit_at-pow_same, bit_at-pow_other, bit_at_mask_inside, bit_at_mask_below, bit_at_mask_above, bit_at_ones, bit_at-zero}
use Rattle.cube_values.specs.BitRows.{has_bit}

-- `word | mask` and `word & !mask`
pub or_inside : (word mask i : ℕ) → bit_at mask i ≡ 1 → has_bit (bit_or word mask) i ≡ true
unfolding has_bit
or_inside word mask i h =
    let b = bit_at_or word mask i in
    let n = bit_at-lt word i in
    grind (arith, nat_tests)

pub or_outside : (word mask i : ℕ) → bit_at mask i ≡ 0 → has_bit (bit_or word mask) i ≡ has_bit word i
unfolding has_bit
or_outside word mask i h =
    let b : bit_at (bit_or word mask) i ≡ bit_at word i = omega (arith, bit_at_or word mask i) in
    rw b

pub and_inside : (word mask i : ℕ) → mask < 2 ^ 64 → i < 64 → bit_at mask i ≡ 1 → has_bit (bit_and word (18446744073709551615 - mask)) i ≡ false
unfolding has_bit
and_inside word mask i m l h =
    let b : bit_at (bit_and word (18446744073709551615 - mask)) i ≡ 0 = omega (arith, bit_at_and word (18446744073709551615 - mask) i, bit_at_not w64 mask i m l) in
    rw b

pub and_outside : (word mask i : ℕ) → mask < 2 ^ 64 → i < 64 → bit_at mask i ≡ 0 → has_bit (bit_and word (18446744073709551615 - mask)) i ≡ has_bit word i
unfolding has_bit
and_outside word mask i m l h =
    let b : bit_at (bit_and word (18446744073709551615 - mask)) i ≡ bit_at word i = omega (arith, bit_at_and word (18446744073709551615 - mask) i, bit_at_not w64 mask i m l, bit_at-lt word i) in
    rw b

-- the mask `1 << k`
pub one_inside : (k : ℕ) → k < 64 → bit_at (1 * 2 ^ k % 2 ^ 64) k ≡ 1
one_inside k h = ap (λ m. bit_at m k) (one_shl k 64 h) ∙ bit_at-pow_same k

pub one_outside : (k i : ℕ) → k < 64 → (i < k) ⊎ (k + 1 ≤ i) → bit_at (1 * 2 ^ k % 2 ^ 64) i ≡ 0
one_outside k i h o =
    ap (λ m. bit_at m i) (one_shl k 64 h) ∙ bit_at-pow_other k i (λ e. elim o [ inl a ↦ omega arith | inr a ↦ omega arith ])

-- the mask `low_ones(high) - low_ones(low)`
pub masks_grow : (low high : ℕ) → low ≤ high → 2 ^ low - 1 ≤ 2 ^ high - 1
masks_grow low high h = omega (arith, pow-le-pow_right {n = 2} (lit< tt) {i = low} {j = high} h)

mask_is : (low high : ℕ) → (2 ^ high - 1) - (2 ^ low - 1) ≡ 2 ^ high - 2 ^ low
mask_is low high = omega (arith, pow_pos low, pow_pos high)

pub mask_inside : (low high i : ℕ) → low ≤ i → i < high → bit_at ((2 ^ high - 1) - (2 ^ low - 1)) i ≡ 1
mask_inside low high i a b = ap (λ m. bit_at m i) (mask_is low high) ∙ bit_at_mask_inside low high i a b

pub mask_outside : (low high i : ℕ) → (i < low) ⊎ (high ≤ i) → bit_at ((2 ^ high - 1) - (2 ^ low - 1)) i ≡ 0
mask_outside low high i o =
    ap (λ m. bit_at m i) (mask_is low high) ∙ elim o [ inl a ↦ bit_at_mask_below low high i a | inr a ↦ bit_at_mask_above low high i a ]

-- the words with all bits set and with none
pub all_set : (i : ℕ) → i < 64 → has_bit (2 ^ 64 - 1) i ≡ true
unfolding has_bit
all_set i h = ap (λ b. b == 1) (bit_at_ones 64 i h)

pub none_set : (i : ℕ) → has_bit 0 i ≡ false
unfolding has_bit
none_set i = ap (λ b. b == 1) (bit_at-zero i)
