-- How many bits of a list of words are set.
use Rattle.std.proofs.Common.{◌≡◌, ℕ, zero, suc, ◌+◌, ◌*◌, ◌/◌, ◌^◌, ◌%◌, ◌<◌, ◌≤◌, cond, false, List, length, take, get_or, ap, ◌∙◌, arith, lit<, sum_by, count_ones}
use Rattle.std.specs.Int.{bit_at}
use Rattle.std.specs.Int.Count.{ones-ones}
use Rattle.std.proofs.lemmas.Bool.Decides.{nat_tests}
use Rattle.std.proofs.lemmas.List.Sums.{sum_by_more, count_by-le-length}
use Rattle.std.proofs.lemmas.List.FromFn.{sum_by-map-range_with_len_more}
use Rattle.std.proofs.lemmas.Nat.{mod-pow-add, ones_cat, pow_pos, mod_below}
use Rattle.std.proofs.lemmas.Nat.Bits.{bit_at-lt}
use Rattle.cube_values.specs.BitRows.{has_bit, is_set, bits_of, set_bits}
use Rattle.cube_values.proofs.BitWords.{bits_length}

-- one more bit
bits_more : (words : List ℕ) (n : ℕ) → set_bits (bits_of words (n + 1)) ≡ set_bits (bits_of words n) + cond (is_set words n) 1 0
unfolding bits_of
bits_more words n = sum_by-map-range_with_len_more (λ b. cond b 1 0) (is_set words) 0 n n (omega arith)

-- no more than there are bits
pub bits_within : (words : List ℕ) (n : ℕ) → set_bits (bits_of words n) ≤ n
bits_within words n = omega (arith, count_by-le-length (λ b. b) (bits_of words n), bits_length words n)

-- bits that are not set add nothing
pub bits_past : (words : List ℕ) (n more : ℕ) → ((i : ℕ) → n ≤ i → i < n + more → is_set words i ≡ false) → set_bits (bits_of words (n + more)) ≡ set_bits (bits_of words n)
bits_past words n zero h = ap (λ m. set_bits (bits_of words m)) (omega arith)
bits_past words n (suc m) h =
    let e = bits_more words (n + m) in
    let off : is_set words (n + m) ≡ false = h (n + m) (omega arith) (omega arith) in
    let rest = bits_past words n m (λ i a b. h i a (omega arith)) in
    let p : n + m + 1 ≡ n + suc m = omega arith in
    omega (arith, ap {B = ℕ} (λ t. cond t 1 0) off, ap (λ j. set_bits (bits_of words j)) p)

-- the ones of a word, by one digit more
ones_digit : (b : ℕ) → b < 2 → count_ones b ≡ b
ones_digit zero h = ones-ones 0
ones_digit (suc zero) h = ones-ones 1
ones_digit (suc (suc b)) h = absurd (omega arith)

digit_cond : (word k : ℕ) → bit_at word k ≡ cond (has_bit word k) 1 0
unfolding has_bit
digit_cond word k = let n = bit_at-lt word k in grind (arith, nat_tests)

ones_more : (word k : ℕ) → count_ones (word % 2 ^ suc k) ≡ count_ones (word % 2 ^ k) + cond (has_bit word k) 1 0
ones_more word k =
    let s : suc k ≡ 1 + k = omega arith in
    let e : word % 2 ^ suc k ≡ bit_at word k * 2 ^ k + word % 2 ^ k = ap (λ j. word % 2 ^ j) s ∙ mod-pow-add word 1 k in
    let c = ones_cat k (bit_at word k) (word % 2 ^ k) (mod_below word (2 ^ k) (pow_pos k)) in
    let d = ones_digit (bit_at word k) (bit_at-lt word k) in
    let f = digit_cond word k in
    omega (arith, ap count_ones e)

bit_of_word : (words : List ℕ) (at k : ℕ) → k < 64 → is_set words (64 * at + k) ≡ has_bit (get_or words at 0) k
unfolding is_set
bit_of_word words at k h =
    let q : (64 * at + k) / 64 ≡ at = omega arith in
    let r : (64 * at + k) % 64 ≡ k = omega arith in
    cc

-- the first k bits of a word
ones_of_word : (words : List ℕ) (at k : ℕ) → k ≤ 64 → set_bits (bits_of words (64 * at + k)) ≡ set_bits (bits_of words (64 * at)) + count_ones (get_or words at 0 % 2 ^ k)
ones_of_word words at zero h =
    let z : get_or words at 0 % 2 ^ zero ≡ 0 = omega (arith, mod_below (get_or words at 0) 1 (lit< tt)) in
    let e : 64 * at + zero ≡ 64 * at = omega arith in
    omega (arith, ap count_ones z, ones-ones 0, ap (λ m. set_bits (bits_of words m)) e)
ones_of_word words at (suc k) h =
    let e = bits_more words (64 * at + k) in
    let b = ap {B = ℕ} (λ t. cond t 1 0) (bit_of_word words at k (omega arith)) in
    let o = ones_more (get_or words at 0) k in
    let rest = ones_of_word words at k (omega arith) in
    let p : 64 * at + k + 1 ≡ 64 * at + suc k = omega arith in
    omega (arith, ap (λ j. set_bits (bits_of words j)) p)

-- the ones of the words are the bits that are set
pub ones_of_words : (words : List ℕ) → ((i : ℕ) → get_or words i 0 < 2 ^ 64) → (n : ℕ) → n ≤ length words → sum_by count_ones (take n words) ≡ set_bits (bits_of words (64 * n))
ones_of_words words fits zero h = omega (arith, bits_within words (64 * zero))
ones_of_words words fits (suc n) h =
    let e = sum_by_more count_ones words n 0 (omega arith) in
    let w : get_or words n 0 % 2 ^ 64 ≡ get_or words n 0 = let f = fits n in omega arith in
    let o = ones_of_word words n 64 (omega arith) in
    let rest = ones_of_words words fits n (omega arith) in
    let p : 64 * n + 64 ≡ 64 * suc n = omega arith in
    let q : n + 1 ≡ suc n = omega arith in
    omega (arith, ap count_ones w, ap (λ m. set_bits (bits_of words m)) p, ap (λ m. sum_by count_ones (take m words)) q)
