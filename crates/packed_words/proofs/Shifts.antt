-- The bits of a word that is shifted, joined with another or cut.
use Rattle.std.proofs.Common.{◌≡◌, ℕ, ◌+◌, ◌-◌, ◌*◌, ◌/◌, ◌%◌, ◌^◌, ◌<◌, ◌≤◌, ◌⊎◌, false, ◌==◌, bit_and, bit_or, sym, ap, ◌∙◌, arith, inl, inr, div-add-mod'}
use Rattle.std.specs.Int.{bit_at}
use Rattle.std.proofs.lemmas.Bool.Decides.{nat_tests}
use Rattle.std.proofs.lemmas.Nat.{shr-shr, pow_pos, one_shl, and_mask}
use Rattle.std.proofs.lemmas.Nat.Bits.{bit_at-zero, bit_at-lt, bit_at_or, bit_at_above, bit_at_cat_low, bit_at_cat_high, bit_at_ones, bit_at_ones_above}
use Rattle.cube_values.specs.BitRows.{has_bit}
use Rattle.cube_values.proofs.BitMasks.{and_inside, and_outside}

-- the bits of what is left of a number in a word
wrapped : (n i : ℕ) → i < 64 → bit_at (n % 2 ^ 64) i ≡ bit_at n i
wrapped n i h =
    let e : n ≡ n / 2 ^ 64 * 2 ^ 64 + n % 2 ^ 64 = omega arith in
    sym (ap (λ m. bit_at m i) e ∙ bit_at_cat_low (n / 2 ^ 64) 64 (n % 2 ^ 64) i h)

pub shl_below : (n s i : ℕ) → i < s → i < 64 → bit_at (n * 2 ^ s % 2 ^ 64) i ≡ 0
shl_below n s i h w =
    let e : n * 2 ^ s ≡ n * 2 ^ s + 0 = omega arith in
    wrapped (n * 2 ^ s) i w ∙ ap (λ m. bit_at m i) e ∙ bit_at_cat_low n s 0 i h ∙ bit_at-zero i

pub shl_from : (n s i : ℕ) → s ≤ i → i < 64 → bit_at (n * 2 ^ s % 2 ^ 64) i ≡ bit_at n (i - s)
shl_from n s i h w =
    let e : n * 2 ^ s ≡ n * 2 ^ s + 0 = omega arith in
    wrapped (n * 2 ^ s) i w ∙ ap (λ m. bit_at m i) e ∙ bit_at_cat_high n s 0 i (pow_pos s) h

pub shr_at : (n s i : ℕ) → bit_at (n / 2 ^ s) i ≡ bit_at n (s + i)
shr_at n s i = ap (λ x. x % 2) (shr-shr n s i)

-- the same as tests
pub same_test : (m n i j : ℕ) → bit_at m i ≡ bit_at n j → has_bit m i ≡ has_bit n j
unfolding has_bit
same_test m n i j e = ap (λ b. b == 1) e

pub clear_test : (n i : ℕ) → has_bit n i ≡ false → bit_at n i ≡ 0
unfolding has_bit
clear_test n i h =
    let b = bit_at-lt n i in
    grind (arith, nat_tests)

pub test_of_clear : (n i : ℕ) → bit_at n i ≡ 0 → has_bit n i ≡ false
unfolding has_bit
test_of_clear n i h = ap (λ b. b == 1) h

-- a number has no bit from its width on
pub has_above : (n k i : ℕ) → n < 2 ^ k → k ≤ i → has_bit n i ≡ false
has_above n k i f h = test_of_clear n i (bit_at_above n k i f h)

pub has_shr : (n s i : ℕ) → has_bit (n / 2 ^ s) i ≡ has_bit n (s + i)
has_shr n s i = same_test (n / 2 ^ s) n i (s + i) (shr_at n s i)

pub or_left : (a b i : ℕ) → bit_at b i ≡ 0 → has_bit (bit_or a b) i ≡ has_bit a i
or_left a b i h = same_test (bit_or a b) a i i (omega (arith, bit_at_or a b i))

pub or_right : (a b i : ℕ) → bit_at a i ≡ 0 → has_bit (bit_or a b) i ≡ has_bit b i
or_right a b i h = same_test (bit_or a b) b i i (omega (arith, bit_at_or a b i))

pub has_low_part : (n w i : ℕ) → i < w → has_bit (n % 2 ^ w) i ≡ has_bit n i
has_low_part n w i h =
    let e : n ≡ n / 2 ^ w * 2 ^ w + n % 2 ^ w = omega (arith, div-add-mod' n (2 ^ w)) in
    same_test (n % 2 ^ w) n i i (sym (ap (λ m. bit_at m i) e ∙ bit_at_cat_low (n / 2 ^ w) w (n % 2 ^ w) i h))

-- `word & ((1 << width) - 1)`
pub masked : (word width : ℕ) → width < 64 → bit_and word (1 * 2 ^ width % 2 ^ 64 - 1) ≡ word % 2 ^ width
masked word width h = ap (λ p. bit_and word (p - 1)) (one_shl width 64 h) ∙ and_mask word width

-- the mask `((1 << width) - 1) << shift`
mask_inside : (width shift i : ℕ) → width < 64 → shift ≤ i → i < shift + width → i < 64 → bit_at ((1 * 2 ^ width % 2 ^ 64 - 1) * 2 ^ shift % 2 ^ 64) i ≡ 1
mask_inside width shift i n h l w =
    ap (λ p. bit_at ((p - 1) * 2 ^ shift % 2 ^ 64) i) (one_shl width 64 n)
    ∙ shl_from (2 ^ width - 1) shift i h w
    ∙ bit_at_ones width (i - shift) (omega arith)

mask_outside : (width shift i : ℕ) → width < 64 → (i < shift) ⊎ (shift + width ≤ i) → i < 64 → bit_at ((1 * 2 ^ width % 2 ^ 64 - 1) * 2 ^ shift % 2 ^ 64) i ≡ 0
mask_outside width shift i n o w =
    ap (λ p. bit_at ((p - 1) * 2 ^ shift % 2 ^ 64) i) (one_shl width 64 n) ∙ elim o [
      | inl a ↦ shl_below (2 ^ width - 1) shift i a w
      | inr a ↦ shl_from (2 ^ width - 1) shift i (omega arith) w ∙ bit_at_ones_above width (i - shift) (omega arith)
    ]

-- a number that is shifted into its place
part_outside : (n width shift i : ℕ) → n < 2 ^ width → (i < shift) ⊎ (shift + width ≤ i) → i < 64 → bit_at (n * 2 ^ shift % 2 ^ 64) i ≡ 0
part_outside n width shift i f o w = elim o [
  | inl a ↦ shl_below n shift i a w
  | inr a ↦ shl_from n shift i (omega arith) w ∙ bit_at_above n width (i - shift) f (omega arith)
]

-- `(word & !mask) | (value << shift)`
pub with_inside : (word shift width value k : ℕ) → width < 64 → shift + width ≤ 64 → k < width → has_bit (bit_or (bit_and word (18446744073709551615 - (1 * 2 ^ width % 2 ^ 64 - 1) * 2 ^ shift % 2 ^ 64)) (value * 2 ^ shift % 2 ^ 64)) (shift + k) ≡ has_bit value k
with_inside word shift width value k n h l =
    let mask : ℕ = (1 * 2 ^ width % 2 ^ 64 - 1) * 2 ^ shift % 2 ^ 64 in
    let rest : ℕ = bit_and word (18446744073709551615 - mask) in
    let part : ℕ = value * 2 ^ shift % 2 ^ 64 in
    let clear = clear_test rest (shift + k) (and_inside word mask (shift + k) (omega arith) (omega arith) (mask_inside width shift (shift + k) n (omega arith) (omega arith) (omega arith))) in
    let place : shift + k - shift ≡ k = omega arith in
    or_right rest part (shift + k) clear
    ∙ same_test part value (shift + k) (shift + k - shift) (shl_from value shift (shift + k) (omega arith) (omega arith))
    ∙ ap (has_bit value) place

pub with_outside : (word shift width value i : ℕ) → width < 64 → value < 2 ^ width → i < 64 → (i < shift) ⊎ (shift + width ≤ i) → has_bit (bit_or (bit_and word (18446744073709551615 - (1 * 2 ^ width % 2 ^ 64 - 1) * 2 ^ shift % 2 ^ 64)) (value * 2 ^ shift % 2 ^ 64)) i ≡ has_bit word i
with_outside word shift width value i n f w o =
    let mask : ℕ = (1 * 2 ^ width % 2 ^ 64 - 1) * 2 ^ shift % 2 ^ 64 in
    or_left (bit_and word (18446744073709551615 - mask)) (value * 2 ^ shift % 2 ^ 64) i (part_outside value width shift i f o w)
    ∙ and_outside word mask i (omega arith) w (mask_outside width shift i n o w)

-- `(low >> shift) | (high << (64 - shift))`
pub straddled_low : (low high shift k : ℕ) → 0 < shift → shift + k < 64 → has_bit (bit_or (low / 2 ^ shift) (high * 2 ^ (64 - shift) % 2 ^ 64)) k ≡ has_bit low (shift + k)
straddled_low low high shift k s h =
    or_left (low / 2 ^ shift) (high * 2 ^ (64 - shift) % 2 ^ 64) k (shl_below high (64 - shift) k (omega arith) (omega arith))
    ∙ has_shr low shift k

pub straddled_high : (low high shift k : ℕ) → low < 2 ^ 64 → 0 < shift → shift < 64 → k < 64 → 64 ≤ shift + k → has_bit (bit_or (low / 2 ^ shift) (high * 2 ^ (64 - shift) % 2 ^ 64)) k ≡ has_bit high (shift + k - 64)
straddled_high low high shift k f s l w h =
    let clear : bit_at (low / 2 ^ shift) k ≡ 0 = shr_at low shift k ∙ bit_at_above low 64 (shift + k) f h in
    let place : k - (64 - shift) ≡ shift + k - 64 = omega arith in
    or_right (low / 2 ^ shift) (high * 2 ^ (64 - shift) % 2 ^ 64) k clear
    ∙ same_test (high * 2 ^ (64 - shift) % 2 ^ 64) high k (k - (64 - shift)) (shl_from high (64 - shift) k (omega arith) w)
    ∙ ap (has_bit high) place
