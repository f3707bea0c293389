-- The lowest bit that is set in a word, words that mark the bits of another, and steps from word to word.
use Rattle.std.proofs.Common.{◌≡◌, ℕ, ◌+◌, ◌-◌, ◌/◌, ◌%◌, ◌^◌, ◌<◌, ◌≤◌, ◌==◌, Bool, true, false, not, List, get_or, ap, ◌∙◌, w64, arith, inl, inr}
use Rattle.std.specs.Int.{bit_at, trailing_zeros}
use Rattle.std.specs.Int.Count.{trailing_of_zero}
use Rattle.std.proofs.lemmas.Bool.{cases_eq}
use Rattle.std.proofs.lemmas.Bool.Decides.{nat_tests}
use Rattle.std.proofs.lemmas.Nat.Bits.{bit_at_not, bit_at-lt, bit_at-trailing_zeros}
use Rattle.cube_values.specs.BitRows.{has_bit, is_set}
use Rattle.cube_values.proofs.BitMasks.{none_set}
use Rattle.cube_values.proofs.BitWords.{is_set_at}

-- a bit of `!word`
pub not_set : (word i : ℕ) → word < 2 ^ 64 → i < 64 → has_bit (18446744073709551615 - word) i ≡ true → has_bit word i ≡ false
unfolding has_bit
not_set word i l h s =
    let e = bit_at_not w64 word i l h in
    let n = bit_at-lt word i in
    grind (arith, nat_tests)

pub not_unset : (word i : ℕ) → word < 2 ^ 64 → i < 64 → has_bit (18446744073709551615 - word) i ≡ false → has_bit word i ≡ true
unfolding has_bit
not_unset word i l h s =
    let e = bit_at_not w64 word i l h in
    let n = bit_at-lt word i in
    grind (arith, nat_tests)

-- the zeros below the lowest bit that is set
pub none_below : (word n i : ℕ) → word < 2 ^ 64 → n ≡ trailing_zeros w64 word → i < n → has_bit word i ≡ false
unfolding has_bit
none_below word n i l is h =
    elim (cases_eq word 0) [
      | inl e ↦ ap (λ w. has_bit w i) e ∙ none_set i
      | inr e ↦ ap (λ b. b == 1) ((bit_at-trailing_zeros w64 word (omega arith) l).2 i (omega arith))
    ]

pub set_first : (word n : ℕ) → word < 2 ^ 64 → n ≡ trailing_zeros w64 word → n < 64 → has_bit word n ≡ true
unfolding has_bit
set_first word n l is h =
    elim (cases_eq word 0) [
      | inl e ↦ absurd (omega (arith, ap (trailing_zeros w64) e, trailing_of_zero 64))
      | inr e ↦ ap (λ k. bit_at word k == 1) is ∙ ap (λ b. b == 1) (bit_at-trailing_zeros w64 word (omega arith) l).1
    ]

-- the bits from a place on, by those of its word
pub unlike_before : (words : List ℕ) (at n i : ℕ) (on : Bool) → at % 64 ≤ n → n ≤ 64 → ((k : ℕ) → at % 64 ≤ k → k < n → has_bit (get_or words (at / 64) 0) k ≡ not on) → at ≤ i → i < at + (n - at % 64) → is_set words i ≡ not on
unlike_before words at n i on low high unlike a b =
    is_set_at words (at / 64) i (omega arith) ∙ unlike (i % 64) (omega arith) (omega arith)

pub alike_there : (words : List ℕ) (at n : ℕ) (on : Bool) → at % 64 ≤ n → n < 64 → has_bit (get_or words (at / 64) 0) n ≡ on → is_set words (at + (n - at % 64)) ≡ on
alike_there words at n on low high alike =
    is_set_at words (at / 64) (at + (n - at % 64)) (omega arith) ∙ ap (has_bit (get_or words (at / 64) 0)) (omega arith) ∙ alike
