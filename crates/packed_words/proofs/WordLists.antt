-- The bits of a list of words, before and after writes to its words.
use Rattle.std.proofs.Common.{◌≡◌, ℕ, ◌+◌, ◌-◌, ◌*◌, ◌/◌, ◌%◌, ◌^◌, ◌<◌, ◌≤◌, false, List, [], ◌∷◌, ◌++◌, length, take, get_or, slice_set, bit_or, ◌⊎◌, refl, sym, ap, ◌∙◌, arith, inl, inr}
use Rattle.std.proofs.lemmas.Nat.{pow_pos, mod_below}
use Rattle.std.proofs.lemmas.Bool.{cases_lt, cases_eq}
use Rattle.std.proofs.lemmas.Bool.Decides.{nat_tests}
use Rattle.std.proofs.lemmas.List.{get_or-set_same, get_or-set_other, length-set, length-append, length-take-le, get_or_append_left, get_or-append_right, get_or-take}
use lib.ListN.{get_or-eq_default}
use Rattle.cube_values.specs.BitRows.{has_bit, is_set, word_count}
use Rattle.cube_values.proofs.BitMasks.{none_set}
use Rattle.packed_words.specs.Words.{IsAppended, IsReplaced, IsCut}
use Rattle.packed_words.proofs.Shifts.{shl_below, shl_from, same_test, clear_test, has_above, has_shr, or_left, or_right, has_low_part}

-- a bit by its word
pub set_at : (words : List ℕ) (at i : ℕ) → i / 64 ≡ at → is_set words i ≡ has_bit (get_or words at 0) (i % 64)
unfolding is_set
set_at words at i e = rw e

pub set_past : (words : List ℕ) (i : ℕ) → length words ≤ i / 64 → is_set words i ≡ false
unfolding is_set
set_past words i h =
    ap (λ w. has_bit w (i % 64)) (get_or-eq_default words 0 h) ∙ none_set (i % 64)

-- the bits of a word that is shifted down
pub word_here : (words : List ℕ) (place k : ℕ) → place % 64 + k < 64 → has_bit (get_or words (place / 64) 0) (place % 64 + k) ≡ is_set words (place + k)
word_here words place k h =
    let within : (place + k) % 64 ≡ place % 64 + k = omega arith in
    sym (set_at words (place / 64) (place + k) (omega arith) ∙ ap (has_bit (get_or words (place / 64) 0)) within)

pub word_next : (words : List ℕ) (place k : ℕ) → k < 64 → 64 ≤ place % 64 + k → has_bit (get_or words (place / 64 + 1) 0) (place % 64 + k - 64) ≡ is_set words (place + k)
word_next words place k l h =
    let within : (place + k) % 64 ≡ place % 64 + k - 64 = omega arith in
    sym (set_at words (place / 64 + 1) (place + k) (omega arith) ∙ ap (has_bit (get_or words (place / 64 + 1) 0)) within)

-- a write to one word
pub set_there : (words : List ℕ) (at word i : ℕ) → at < length words → i / 64 ≡ at → is_set (slice_set words at word) i ≡ has_bit word (i % 64)
set_there words at word i h e =
    set_at (slice_set words at word) at i e ∙ ap (λ w. has_bit w (i % 64)) (get_or-set_same words at word 0 h)

pub set_elsewhere : (words : List ℕ) (at word i : ℕ) → (i / 64 ≡ at → ⊥) → is_set (slice_set words at word) i ≡ is_set words i
unfolding is_set
set_elsewhere words at word i e = ap (λ w. has_bit w (i % 64)) (get_or-set_other words at (i / 64) word 0 e)

-- one word more
pub set_front : (words : List ℕ) (word i : ℕ) → i / 64 < length words → is_set (words ++ word ∷ []) i ≡ is_set words i
unfolding is_set
set_front words word i h =
    ap (λ w. has_bit w (i % 64)) (get_or_append_left words (word ∷ []) 0 (i / 64) h)

pub set_last : (words : List ℕ) (word i : ℕ) → i / 64 ≡ length words → is_set (words ++ word ∷ []) i ≡ has_bit word (i % 64)
set_last words word i e =
    let there = get_or-append_right words (word ∷ []) (length words) (length words) 0 (omega arith) (omega arith) in
    let first : length words - length words ≡ 0 = omega arith in
    set_at (words ++ word ∷ []) (length words) i e ∙ ap (λ w. has_bit w (i % 64)) (there ∙ ap (λ k. get_or (word ∷ []) k 0) first)

-- bits of a number after others
appended : (old new : List ℕ) (len value : ℕ) → ((i : ℕ) → i < len → is_set new i ≡ is_set old i) → ((i : ℕ) → len ≤ i → is_set new i ≡ has_bit value (i - len)) → IsAppended old new len value
appended old new len value front rest i = elim (cases_lt i len) [
  | inl a ↦ let e = front i a in grind (arith, nat_tests)
  | inr a ↦ let e = rest i a in grind (arith, nat_tests)
]

pub appended_unused : (old new : List ℕ) (len value width i : ℕ) → IsAppended old new len value → value < 2 ^ width → len + width ≤ i → is_set new i ≡ false
appended_unused old new len value width i a f h =
    let e = a i in
    let none = has_above value width (i - len) f (omega arith) in
    grind (arith, nat_tests)

pub appended_front : (old new : List ℕ) (len value i : ℕ) → IsAppended old new len value → i < len → is_set new i ≡ is_set old i
appended_front old new len value i a h = let e = a i in grind (arith, nat_tests)

pub appended_rest : (old new : List ℕ) (len value i : ℕ) → IsAppended old new len value → len ≤ i → is_set new i ≡ has_bit value (i - len)
appended_rest old new len value i a h = let e = a i in grind (arith, nat_tests)

pub appended_none : (words : List ℕ) (len value width : ℕ) → ((i : ℕ) → len ≤ i → is_set words i ≡ false) → value < 2 ^ width → width ≡ 0 → IsAppended words words len value
appended_none words len value width u f e =
    let zero : value < 2 ^ 0 = rw e at f in
    appended words words len value (λ i _. refl) (λ i h. u i h ∙ sym (has_above value 0 (i - len) zero (omega arith)))

pub appended_whole : (words : List ℕ) (len value : ℕ) → length words ≡ word_count len → len % 64 ≡ 0 → value < 2 ^ 64 → IsAppended words (words ++ value ∷ []) len value
appended_whole words len value c e f =
    appended words (words ++ value ∷ []) len value (λ i h. set_front words value i (omega arith)) rest where
      rest : (i : ℕ) → len ≤ i → is_set (words ++ value ∷ []) i ≡ has_bit value (i - len)
      rest i h = elim (cases_eq (i / 64) (length words)) [
        | inl a ↦ let same : i % 64 ≡ i - len = omega arith in set_last words value i a ∙ ap (has_bit value) same
        | inr a ↦
            set_past (words ++ value ∷ []) i (omega (arith, length-append words (value ∷ [])))
            ∙ sym (has_above value 64 (i - len) f (omega arith))
      ]

-- the last word with the bits of a number from its first free bit on
abbrev pub last_word : (words : List ℕ) (len value : ℕ) → List ℕ
last_word words len value =
    slice_set words (len / 64) (bit_or (get_or words (len / 64) 0) (value * 2 ^ (len % 64) % 2 ^ 64))

last_front : (words : List ℕ) (len value i : ℕ) → length words ≡ word_count len → 0 < len % 64 → i < len → is_set (last_word words len value) i ≡ is_set words i
last_front words len value i c u h = elim (cases_eq (i / 64) (len / 64)) [
  | inl a ↦
      set_there words (len / 64) _ i (omega arith) a
      ∙ or_left (get_or words (len / 64) 0) (value * 2 ^ (len % 64) % 2 ^ 64) (i % 64) (shl_below value (len % 64) (i % 64) (omega arith) (omega arith))
      ∙ sym (set_at words (len / 64) i a)
  | inr a ↦ set_elsewhere words (len / 64) _ i a
]

last_rest : (words : List ℕ) (len value i : ℕ) → length words ≡ word_count len → 0 < len % 64 → ((i : ℕ) → len ≤ i → is_set words i ≡ false) → len ≤ i → i / 64 ≡ len / 64 → is_set (last_word words len value) i ≡ has_bit value (i - len)
last_rest words len value i c u free h a =
    let clear = clear_test (get_or words (len / 64) 0) (i % 64) (sym (set_at words (len / 64) i a) ∙ free i h) in
    let place : i % 64 - len % 64 ≡ i - len = omega arith in
    set_there words (len / 64) _ i (omega arith) a
    ∙ or_right (get_or words (len / 64) 0) (value * 2 ^ (len % 64) % 2 ^ 64) (i % 64) clear
    ∙ same_test (value * 2 ^ (len % 64) % 2 ^ 64) value (i % 64) (i % 64 - len % 64) (shl_from value (len % 64) (i % 64) (omega arith) (omega arith))
    ∙ ap (has_bit value) place

pub appended_last : (words : List ℕ) (len value width : ℕ) → length words ≡ word_count len → 0 < len % 64 → ((i : ℕ) → len ≤ i → is_set words i ≡ false) → value < 2 ^ width → len % 64 + width ≤ 64 → IsAppended words (last_word words len value) len value
appended_last words len value width c u free f l =
    appended words (last_word words len value) len value (λ i h. last_front words len value i c u h) rest where
      rest : (i : ℕ) → len ≤ i → is_set (last_word words len value) i ≡ has_bit value (i - len)
      rest i h = elim (cases_eq (i / 64) (len / 64)) [
        | inl a ↦ last_rest words len value i c u free h a
        | inr a ↦
            set_past (last_word words len value) i (omega (arith, length-set words (len / 64) (bit_or (get_or words (len / 64) 0) (value * 2 ^ (len % 64) % 2 ^ 64))))
            ∙ sym (has_above value width (i - len) f (omega arith))
      ]

pub appended_two : (words : List ℕ) (len value width : ℕ) → length words ≡ word_count len → 0 < len % 64 → ((i : ℕ) → len ≤ i → is_set words i ≡ false) → value < 2 ^ width → width ≤ 64 → IsAppended words (last_word words len value ++ value / 2 ^ (64 - len % 64) ∷ []) len value
appended_two words len value width c u free f l =
    appended words both len value front rest where
      first : List ℕ
      first = last_word words len value

      both : List ℕ
      both = first ++ value / 2 ^ (64 - len % 64) ∷ []

      long : length first ≡ length words
      long = length-set words (len / 64) (bit_or (get_or words (len / 64) 0) (value * 2 ^ (len % 64) % 2 ^ 64))

      front : (i : ℕ) → i < len → is_set both i ≡ is_set words i
      front i h = set_front first (value / 2 ^ (64 - len % 64)) i (omega (arith, long)) ∙ last_front words len value i c u h

      rest : (i : ℕ) → len ≤ i → is_set both i ≡ has_bit value (i - len)
      rest i h = elim (cases_eq (i / 64) (len / 64)) [
        | inl a ↦
            set_front first (value / 2 ^ (64 - len % 64)) i (omega (arith, long))
            ∙ last_rest words len value i c u free h a
        | inr a ↦ elim (cases_eq (i / 64) (length first)) [
          | inl b ↦
              let place : (64 - len % 64) + i % 64 ≡ i - len = omega (arith, long) in
              set_last first (value / 2 ^ (64 - len % 64)) i b
              ∙ has_shr value (64 - len % 64) (i % 64)
              ∙ ap (has_bit value) place
          | inr b ↦
              set_past both i (omega (arith, long, length-append first (value / 2 ^ (64 - len % 64) ∷ [])))
              ∙ sym (has_above value width (i - len) f (omega (arith, long)))
        ]
      ]

-- bits of one word replaced
pub word_replaced : (words : List ℕ) (place width value word : ℕ) → place < 64 * length words → place % 64 + width ≤ 64 → ((k : ℕ) → k < width → has_bit word (place % 64 + k) ≡ has_bit value k) → ((i : ℕ) → i < 64 → (i < place % 64) ⊎ (place % 64 + width ≤ i) → has_bit word i ≡ has_bit (get_or words (place / 64) 0) i) → IsReplaced words (slice_set words (place / 64) word) place width value
word_replaced words place width value word h l inside outside = record {
  long = length-set words (place / 64) word;
  inside = λ k p.
      let within : (place + k) % 64 ≡ place % 64 + k = omega arith in
      set_there words (place / 64) word (place + k) (omega arith) (omega arith) ∙ ap (has_bit word) within ∙ inside k p;
  below = λ i p. same i (inl p);
  above = λ i p. same i (inr p);
} where
  same : (i : ℕ) → (i < place) ⊎ (place + width ≤ i) → is_set (slice_set words (place / 64) word) i ≡ is_set words i
  same i o = elim (cases_eq (i / 64) (place / 64)) [
    | inl e ↦
        set_there words (place / 64) word i (omega arith) e
        ∙ outside (i % 64) (omega arith) (elim o [ inl a ↦ inl (omega arith) | inr a ↦ inr (omega arith) ])
        ∙ sym (set_at words (place / 64) i e)
    | inr e ↦ set_elsewhere words (place / 64) word i e
  ]

-- the first bits alone
cut : (old new : List ℕ) (len : ℕ) → ((i : ℕ) → i < len → is_set new i ≡ is_set old i) → ((i : ℕ) → len ≤ i → is_set new i ≡ false) → IsCut old new len
cut old new len front rest i = elim (cases_lt i len) [
  | inl a ↦ let e = front i a in grind (arith, nat_tests)
  | inr a ↦ let e = rest i a in grind (arith, nat_tests)
]

pub cut_front : (old new : List ℕ) (len i : ℕ) → IsCut old new len → i < len → is_set new i ≡ is_set old i
cut_front old new len i c h = let e = c i in grind (arith, nat_tests)

pub cut_rest : (old new : List ℕ) (len i : ℕ) → IsCut old new len → len ≤ i → is_set new i ≡ false
cut_rest old new len i c h = let e = c i in grind (arith, nat_tests)

set_taken : (words : List ℕ) (n i : ℕ) → i / 64 < n → is_set (take n words) i ≡ is_set words i
unfolding is_set
set_taken words n i h = ap (λ w. has_bit w (i % 64)) (get_or-take n words (i / 64) 0 h)

pub cut_whole : (words : List ℕ) (len : ℕ) → len ≤ 64 * length words → len % 64 ≡ 0 → IsCut words (take (len / 64) words) len
cut_whole words len h e =
    cut words (take (len / 64) words) len (λ i p. set_taken words (len / 64) i (omega arith)) (λ i p. set_past (take (len / 64) words) i (omega (arith, length-take-le (len / 64) words (omega arith))))

pub cut_word : (words : List ℕ) (len n : ℕ) → len ≤ 64 * length words → 0 < len % 64 → n ≡ len / 64 + 1 → IsCut words (slice_set (take n words) (len / 64) (get_or (take n words) (len / 64) 0 % 2 ^ (len % 64))) len
cut_word words len n h u e =
    cut words new len front rest where
      old : List ℕ
      old = take n words

      last : ℕ
      last = get_or old (len / 64) 0 % 2 ^ (len % 64)

      new : List ℕ
      new = slice_set old (len / 64) last

      long : length old ≡ len / 64 + 1
      long = length-take-le n words (omega arith) ∙ e

      front : (i : ℕ) → i < len → is_set new i ≡ is_set words i
      front i p = elim (cases_eq (i / 64) (len / 64)) [
        | inl a ↦
            set_there old (len / 64) last i (omega (arith, long)) a
            ∙ has_low_part (get_or old (len / 64) 0) (len % 64) (i % 64) (omega arith)
            ∙ sym (set_at old (len / 64) i a)
            ∙ set_taken words n i (omega arith)
        | inr a ↦ set_elsewhere old (len / 64) last i a ∙ set_taken words n i (omega arith)
      ]

      rest : (i : ℕ) → len ≤ i → is_set new i ≡ false
      rest i p = elim (cases_eq (i / 64) (len / 64)) [
        | inl a ↦
            set_there old (len / 64) last i (omega (arith, long)) a
            ∙ has_above last (len % 64) (i % 64) (mod_below (get_or old (len / 64) 0) (2 ^ (len % 64)) (pow_pos (len % 64))) (omega arith)
        | inr a ↦ set_past new i (omega (arith, long, length-set old (len / 64) last))
      ]
