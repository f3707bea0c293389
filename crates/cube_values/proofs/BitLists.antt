-- What stays true of the words of a list of bits, as it is made, written and grown.
use Rattle.std.proofs.Common.{◌≡◌, ℕ, ◌+◌, ◌-◌, ◌*◌, ◌/◌, ◌^◌, ◌%◌, ◌<◌, ◌≤◌, Bool, false, List, ◌++◌, length, take, replicate, get_or, sym, ap, ◌∙◌, arith, inl, inr, sum_by, count_ones}
use Rattle.std.proofs.lemmas.Bool.{cases_lt}
use Rattle.std.proofs.lemmas.List.{take_all, length-replicate, get_or_append_left, get_or-append_right, get_or-replicate, get_or_past}
use Rattle.cube_values.specs.BitRows.{has_bit, is_set, bits_of, set_bits, word_count, IsFilled, IsWellFormed}
use Rattle.cube_values.proofs.BitMasks.{none_set}
use Rattle.cube_values.proofs.BitCounts.{bits_past, ones_of_words}

zeros : (n i : ℕ) → get_or (replicate {A = ℕ} n 0) i 0 ≡ 0
zeros n i =
    elim (cases_lt i n) [
      | inl a ↦ get_or-replicate n i 0 0 a
      | inr a ↦ get_or_past (replicate {A = ℕ} n 0) i 0 (omega (arith, length-replicate {A = ℕ} n 0))
    ]

-- words of zeros
pub none_of_zeros : (words : List ℕ) (n i : ℕ) → words ≡ replicate {A = ℕ} n 0 → is_set words i ≡ false
unfolding is_set
none_of_zeros words n i e =
    ap (λ ws. has_bit (get_or ws (i / 64) 0) (i % 64)) e ∙ ap (λ w. has_bit w (i % 64)) (zeros n (i / 64)) ∙ none_set (i % 64)

pub kept_zeros : (words : List ℕ) (len n : ℕ) → n ≡ word_count len → words ≡ replicate {A = ℕ} n 0 → IsWellFormed words len len
kept_zeros words len n w e = record {
  within = omega arith;
  held = ap length e ∙ length-replicate {A = ℕ} n 0 ∙ w;
  unused = λ i _ _. none_of_zeros words n i e;
}

-- more words of zeros
grown_words : (old : List ℕ) (n j : ℕ) → get_or (old ++ replicate {A = ℕ} n 0) j 0 ≡ get_or old j 0
grown_words old n j =
    elim (cases_lt j (length old)) [
      | inl a ↦ get_or_append_left old (replicate {A = ℕ} n 0) 0 j a
      | inr a ↦ get_or-append_right old (replicate {A = ℕ} n 0) (length old) j 0 (omega arith) a ∙ zeros n (j - length old) ∙ sym (get_or_past old j 0 a)
    ]

pub same_grown : (old new : List ℕ) (k n i : ℕ) → length old ≤ k → new ≡ take k old ++ replicate {A = ℕ} n 0 → is_set new i ≡ is_set old i
unfolding is_set
same_grown old new k n i h e =
    ap (λ ws. has_bit (get_or ws (i / 64) 0) (i % 64)) (e ∙ ap (λ ws. ws ++ replicate {A = ℕ} n 0) (take_all k old h)) ∙ ap (λ w. has_bit w (i % 64)) (grown_words old n (i / 64))

pub kept_grown : (old new : List ℕ) (len room more count n : ℕ) → IsWellFormed old len room → room ≤ more → count ≡ word_count more → length new ≡ count → new ≡ take count old ++ replicate {A = ℕ} n 0 → IsWellFormed new len more
kept_grown old new len room more count n k h w l e =
    let within = k.within in
    let held = k.held in
    record {
      within = omega arith;
      held = l ∙ w;
      unused = λ i a b. same_grown old new count n i (omega arith) e ∙ k.unused i a b;
    }

-- a write below the length
pub kept_filled : (old new : List ℕ) (len room from to : ℕ) (on : Bool) → IsWellFormed old len room → to ≤ len → IsFilled old new from to on → IsWellFormed new len room
kept_filled old new len room from to on k h f = record {
  within = k.within;
  held = f.long ∙ k.held;
  unused = λ i a b. f.above i (omega arith) ∙ k.unused i a b;
}

-- the words in use hold the bits that are set
pub ones_used : (words : List ℕ) (len : ℕ) → ((i : ℕ) → get_or words i 0 < 2 ^ 64) → word_count len ≤ length words → ((i : ℕ) → len ≤ i → i < 64 * word_count len → is_set words i ≡ false) → sum_by count_ones (take (word_count len) words) ≡ set_bits (bits_of words len)
ones_used words len fits held unused =
    let more : len + (64 * word_count len - len) ≡ 64 * word_count len = omega arith in
    ones_of_words words fits (word_count len) held ∙ ap (λ n. set_bits (bits_of words n)) (sym more) ∙ bits_past words len (64 * word_count len - len) (λ i a b. unused i a (omega arith))
