-- The bits of a list of words, before and after writes to its words.
use Rattle.std.proofs.Common.{◌≡◌, ℕ, ◌+◌, ◌-◌, ◌*◌, ◌/◌, ◌%◌, ◌<◌, ◌≤◌, ◌⊎◌, Bool, false, List, ◌++◌, length, take, drop, replicate, get_or, slice_set, sym, ap, subst, ◌∙◌, arith, inl, inr}
use Rattle.std.proofs.lemmas.Bool.{cases_lt, cases_eq}
use Rattle.std.proofs.lemmas.List.{ext_get_or, get_or-set_same, get_or-set_other, length-set, length-take-le, length-replicate, length-append, length-drop, get_or_append_left, get_or-append_right, get_or-take, get_or-drop, get_or-replicate}
use borrow.Rule.Slice.PartMut.{put_mid}
use Rattle.std.proofs.lemmas.Slice.{take-put_mid_below, take-put_mid, drop-put_mid}
use Rattle.std.proofs.lemmas.List.FromFn.{length-map-range_with_len, get_or-map-range_with_len}
use Rattle.cube_values.specs.BitRows.{has_bit, is_set, bits_of, filled_bits, IsFilled}

-- the length and the elements of the first n bits, and what shows them equal to a list
pub bits_length : (words : List ℕ) (n : ℕ) → length (bits_of words n) ≡ n
unfolding bits_of
bits_length words n = length-map-range_with_len (is_set words) 0 n

pub bits_at : (words : List ℕ) (n i : ℕ) (d : Bool) → i < n → get_or (bits_of words n) i d ≡ is_set words i
unfolding bits_of
bits_at words n i d h = get_or-map-range_with_len (is_set words) 0 n i i d h (omega arith)

pub bits_are : (words : List ℕ) (n : ℕ) (bits : List Bool) → length bits ≡ n → ((i : ℕ) → i < n → is_set words i ≡ get_or bits i false) → bits_of words n ≡ bits
bits_are words n bits l h =
    let e = bits_length words n in
    ext_get_or false (bits_of words n) bits (e ∙ sym l) (λ i p. let q : i < n = omega arith in bits_at words n i false q ∙ h i q)

pub bits_all : (words : List ℕ) (n : ℕ) (on : Bool) → ((i : ℕ) → i < n → is_set words i ≡ on) → bits_of words n ≡ replicate n on
bits_all words n on h =
    bits_are words n (replicate n on) (length-replicate n on) (λ i p. h i p ∙ sym (get_or-replicate n i on false p))

pub bits_same : (old new : List ℕ) (n : ℕ) → ((i : ℕ) → i < n → is_set new i ≡ is_set old i) → bits_of new n ≡ bits_of old n
bits_same old new n h =
    bits_are new n (bits_of old n) (bits_length old n) (λ i p. h i p ∙ sym (bits_at old n i false p))

-- the length and the elements of a list that is filled in part
length-filled : (xs : List Bool) (from to : ℕ) (on : Bool) → from ≤ to → to ≤ length xs → length (filled_bits xs from to on) ≡ length xs
length-filled xs from to on p q = simp (length-append, length-replicate, length-drop) (omega (arith, length-take-le from xs (omega arith)))

filled_below : (xs : List Bool) (from to : ℕ) (on : Bool) → to ≤ length xs → (i : ℕ) → from ≤ to → i < from → get_or (filled_bits xs from to on) i false ≡ get_or xs i false
filled_below xs from to on q i p h =
    let e = length-take-le from xs (omega arith) in
    let m = length-append (take from xs) (replicate (to - from) on) in
    get_or_append_left (take from xs ++ replicate (to - from) on) (drop to xs) false i (omega arith) ∙ get_or_append_left (take from xs) (replicate (to - from) on) false i (omega arith) ∙ get_or-take from xs i false h

filled_inside : (xs : List Bool) (from to : ℕ) (on : Bool) → to ≤ length xs → (i : ℕ) → from ≤ i → i < to → get_or (filled_bits xs from to on) i false ≡ on
filled_inside xs from to on q i p h =
    let e = length-take-le from xs (omega arith) in
    let m = length-append (take from xs) (replicate (to - from) on) in
    let r = length-replicate (to - from) on in
    get_or_append_left (take from xs ++ replicate (to - from) on) (drop to xs) false i (omega arith) ∙ get_or-append_right (take from xs) (replicate (to - from) on) from i false e p ∙ get_or-replicate (to - from) (i - from) on false (omega arith)

filled_above : (xs : List Bool) (from to : ℕ) (on : Bool) → to ≤ length xs → (i : ℕ) → from ≤ to → to ≤ i → get_or (filled_bits xs from to on) i false ≡ get_or xs i false
filled_above xs from to on q i p h =
    let e = length-take-le from xs (omega arith) in
    let m = length-append (take from xs) (replicate (to - from) on) in
    let r = length-replicate (to - from) on in
    get_or-append_right (take from xs ++ replicate (to - from) on) (drop to xs) to i false (omega arith) h ∙ get_or-drop to xs (i - to) false ∙ ap (λ k. get_or xs k false) (omega arith)

-- words that are filled in part hold a list that is filled in part
pub bits_filled : (old new : List ℕ) (n from to : ℕ) (on : Bool) → from ≤ to → to ≤ n → IsFilled old new from to on → bits_of new n ≡ filled_bits (bits_of old n) from to on
bits_filled old new n from to on p q f =
    let e = bits_length old n in
    let k : to ≤ length (bits_of old n) = omega arith in
    bits_are new n (filled_bits (bits_of old n) from to on) (length-filled (bits_of old n) from to on p k ∙ e) (λ i h.
    elim (cases_lt i from) [
      | inl a ↦ f.below i a ∙ sym (bits_at old n i false h) ∙ sym (filled_below (bits_of old n) from to on k i p a)
      | inr a ↦ elim (cases_lt i to) [
        | inl b ↦ f.inside i a b ∙ sym (filled_inside (bits_of old n) from to on k i a b)
        | inr b ↦ f.above i b ∙ sym (bits_at old n i false h) ∙ sym (filled_above (bits_of old n) from to on k i p b)
      ]
    ])

-- to fill one place is to set it
pub filled_one : (xs : List Bool) (i : ℕ) (on : Bool) → i < length xs → filled_bits xs i (i + 1) on ≡ slice_set xs i on
filled_one xs i on h =
    let k : i + 1 ≤ length xs = omega arith in
    ext_get_or false (filled_bits xs i (i + 1) on) (slice_set xs i on) (length-filled xs i (i + 1) on (omega arith) k ∙ sym (length-set xs i on)) (λ j _.
    elim (cases_lt j i) [
      | inl a ↦ filled_below xs i (i + 1) on k j (omega arith) a ∙ sym (get_or-set_other xs i j on false (λ e. omega arith))
      | inr a ↦ elim (cases_lt j (i + 1)) [
        | inl b ↦ filled_inside xs i (i + 1) on k j a b ∙ sym (let e : j ≡ i = omega arith in rw e (get_or-set_same xs i on false h))
        | inr b ↦ filled_above xs i (i + 1) on k j (omega arith) b ∙ sym (get_or-set_other xs i j on false (λ e. omega arith))
      ]
    ])

-- a write to one word
set_there : (words : List ℕ) (at word i : ℕ) → at < length words → i / 64 ≡ at → is_set (slice_set words at word) i ≡ has_bit word (i % 64)
unfolding is_set
set_there words at word i h e = rw e (ap (λ w. has_bit w (i % 64)) (get_or-set_same words at word 0 h))

set_elsewhere : (words : List ℕ) (at word i : ℕ) → (i / 64 ≡ at → ⊥) → is_set (slice_set words at word) i ≡ is_set words i
unfolding is_set
set_elsewhere words at word i e = ap (λ w. has_bit w (i % 64)) (get_or-set_other words at (i / 64) word 0 e)

pub is_set_at : (words : List ℕ) (at i : ℕ) → i / 64 ≡ at → is_set words i ≡ has_bit (get_or words at 0) (i % 64)
unfolding is_set
is_set_at words at i e = rw e

pub word_filled : (words : List ℕ) (at low high word : ℕ) (on : Bool) → at < length words → high ≤ 64 → ((i : ℕ) → low ≤ i → i < high → has_bit word i ≡ on) → ((i : ℕ) → i < 64 → (i < low) ⊎ (high ≤ i) → has_bit word i ≡ has_bit (get_or words at 0) i) → IsFilled words (slice_set words at word) (64 * at + low) (64 * at + high) on
word_filled words at low high word on h k inside outside =
    let same : (i : ℕ) → (i < 64 * at + low) ⊎ (64 * at + high ≤ i) → is_set (slice_set words at word) i ≡ is_set words i = λ i o.
    elim (cases_eq (i / 64) at) [
      | inl e ↦ set_there words at word i h e ∙ outside (i % 64) (omega arith) (elim o [ inl a ↦ inl (omega arith) | inr a ↦ inr (omega arith) ]) ∙ sym (is_set_at words at i e)
      | inr e ↦ set_elsewhere words at word i e
    ] in
    record {
      long = length-set words at word;
      inside = λ i a b. set_there words at word i h (omega arith) ∙ inside (i % 64) (omega arith) (omega arith);
      below = λ i a. same i (inl a);
      above = λ i a. same i (inr a);
    }

-- a write to one bit
pub bit_filled : (words : List ℕ) (i word : ℕ) (on : Bool) → i / 64 < length words → has_bit word (i % 64) ≡ on → ((j : ℕ) → j < 64 → (j < i % 64) ⊎ (i % 64 + 1 ≤ j) → has_bit word j ≡ has_bit (get_or words (i / 64) 0) j) → IsFilled words (slice_set words (i / 64) word) i (i + 1) on
bit_filled words i word on h inside outside =
    let from : 64 * (i / 64) + i % 64 ≡ i = omega arith in
    let to : 64 * (i / 64) + (i % 64 + 1) ≡ i + 1 = omega arith in
    let here : (j : ℕ) → i % 64 ≤ j → j < i % 64 + 1 → has_bit word j ≡ on = λ j a b. ap (has_bit word) (omega arith) ∙ inside in
    let new : List ℕ = slice_set words (i / 64) word in
    subst (λ (a : ℕ). IsFilled words new a (i + 1) on) from (subst (λ (b : ℕ). IsFilled words new (64 * (i / 64) + i % 64) b on) to (word_filled words (i / 64) (i % 64) (i % 64 + 1) word on h (omega arith) here outside))

-- a write to words in a row
mid_below : (xs ys : List ℕ) (a k j : ℕ) → a ≤ length xs → j < a → get_or (put_mid a k xs ys) j 0 ≡ get_or xs j 0
mid_below xs ys a k j h p =
    sym (get_or-take a (put_mid a k xs ys) j 0 p) ∙ ap (λ l. get_or l j 0) (take-put_mid_below a k xs ys a (omega arith) h) ∙ get_or-take a xs j 0 p

mid_inside : (xs : List ℕ) (word a e j : ℕ) → e ≤ length xs → a ≤ j → j < e → get_or (put_mid a (e - a) xs (replicate (e - a) word)) j 0 ≡ word
mid_inside xs word a e j h p q =
    let ys : List ℕ = replicate (e - a) word in
    let l : length ys ≡ e - a = length-replicate (e - a) word in
    sym (get_or-take e (put_mid a (e - a) xs ys) j 0 q) ∙ ap (λ l. get_or l j 0) (take-put_mid a (e - a) xs ys e (omega arith) (omega arith)) ∙ get_or-append_right (take a xs) ys a j 0 (length-take-le a xs (omega arith)) p ∙ get_or-replicate (e - a) (j - a) word 0 (omega arith)

mid_above : (xs ys : List ℕ) (a e j : ℕ) → a ≤ e → e ≤ length xs → length ys ≡ e - a → e ≤ j → get_or (put_mid a (e - a) xs ys) j 0 ≡ get_or xs j 0
mid_above xs ys a e j o h l p =
    let at : e + (j - e) ≡ j = omega arith in
    let zs : List ℕ = put_mid a (e - a) xs ys in
    ap (λ k. get_or zs k 0) (sym at) ∙ sym (get_or-drop e zs (j - e) 0) ∙ ap (λ l. get_or l (j - e) 0) (drop-put_mid a (e - a) xs ys e (omega arith) (omega arith) l) ∙ get_or-drop e xs (j - e) 0 ∙ ap (λ k. get_or xs k 0) at

pub words_filled : (words part : List ℕ) (first last word : ℕ) (on : Bool) → first ≤ last → last ≤ length words → part ≡ replicate (length (take (last - first) (drop first words))) word → ((k : ℕ) → k < 64 → has_bit word k ≡ on) → IsFilled words (put_mid first (last - first) words part) (64 * first) (64 * last) on
unfolding is_set
words_filled words part first last word on o h r b =
    let n : length (take (last - first) (drop first words)) ≡ last - first = length-take-le (last - first) (drop first words) (omega (arith, length-drop first words)) in
    let e : part ≡ replicate (last - first) word = r ∙ ap (λ k. replicate k word) n in
    let l : length part ≡ last - first = ap length e ∙ length-replicate (last - first) word in
    let s : length (put_mid first (last - first) words part) ≡ length words = simp (length-append, length-drop) (omega (arith, length-take-le first words (omega arith))) in
    record {
      long = s;
      inside = λ i p q. ap (λ ys. has_bit (get_or (put_mid first (last - first) words ys) (i / 64) 0) (i % 64)) e ∙ ap (λ w. has_bit w (i % 64)) (mid_inside words word first last (i / 64) h (omega arith) (omega arith)) ∙ b (i % 64) (omega arith);
      below = λ i p. ap (λ w. has_bit w (i % 64)) (mid_below words part first (last - first) (i / 64) (omega arith) (omega arith));
      above = λ i p. ap (λ w. has_bit w (i % 64)) (mid_above words part first last (i / 64) o h l (omega arith));
    }
