-- Lists of bits in words, as bits are appended, read, copied and cut.
use Rattle.std.proofs.Common.{◌≡◌, ℕ, ◌+◌, ◌-◌, ◌^◌, ◌<◌, ◌≤◌, Bool, false, List, [], ◌++◌, length, take, drop, get_or, refl, sym, ap, ◌∙◌, arith, inl, inr}
use Rattle.std.proofs.lemmas.Bool.{cases_lt}
use Rattle.std.proofs.lemmas.List.{ext_get_or, append_assoc, length-append, length-take-le, length-drop, get_or_append_left, get_or-append_right, get_or-take, get_or-drop}
use Rattle.cube_values.specs.BitRows.{has_bit, is_set, bits_of, word_count}
use Rattle.cube_values.proofs.BitWords.{bits_length, bits_at, bits_are}
use Rattle.packed_words.specs.Numbers.{number_of_bits, low_bits}
use Rattle.packed_words.specs.Words.{ArePacked, IsAppended, IsCut}
use Rattle.packed_words.proofs.Numbers.{low_length, low_at, number_of_low}
use Rattle.packed_words.proofs.WordLists.{set_past, appended_front, appended_rest, appended_unused, cut_front, cut_rest}

pub bits_none : (words : List ℕ) → bits_of words 0 ≡ []
unfolding bits_of
bits_none words = refl

pub packed_none : (capacity : ℕ) → ArePacked [] 0 0 capacity
packed_none capacity = record {
  within = omega arith;
  count = omega arith;
  memory = omega arith;
  unused = λ i h. set_past [] i (omega arith);
}

pub count_grows : (n m : ℕ) → n ≤ m → word_count n ≤ word_count m
count_grows n m h = omega arith

-- the bits of a number at the end
pub bits_appended : (old new : List ℕ) (len value width : ℕ) → IsAppended old new len value → bits_of new (len + width) ≡ bits_of old len ++ low_bits width value
bits_appended old new len value width a =
    bits_are new (len + width) (bits_of old len ++ low_bits width value) long each where
      front : length (bits_of old len) ≡ len
      front = bits_length old len

      long : length (bits_of old len ++ low_bits width value) ≡ len + width
      long = omega (arith, length-append (bits_of old len) (low_bits width value), front, low_length width value)

      each : (i : ℕ) → i < len + width → is_set new i ≡ get_or (bits_of old len ++ low_bits width value) i false
      each i h = elim (cases_lt i len) [
        | inl b ↦
            appended_front old new len value i a b
            ∙ sym (get_or_append_left (bits_of old len) (low_bits width value) false i (omega (arith, front)) ∙ bits_at old len i false b)
        | inr b ↦
            appended_rest old new len value i a b
            ∙ sym (get_or-append_right (bits_of old len) (low_bits width value) len i false front b ∙ low_at width value (i - len) false (omega arith))
      ]

pub packed_appended : (old new : List ℕ) (len value width room before after : ℕ) → ArePacked old len room before → length new ≡ word_count (len + width) → IsAppended old new len value → value < 2 ^ width → len + width ≤ room → after ≡ before → ArePacked new (len + width) room after
packed_appended old new len value width room before after p c a f l e = record {
  within = l;
  count = c;
  memory = omega (arith, p.memory);
  unused = λ i h. appended_unused old new len value width i a f h;
}

-- a number that is read
pub number_read : (words : List ℕ) (len place width n : ℕ) → place + width ≤ len → n < 2 ^ width → ((k : ℕ) → k < width → has_bit n k ≡ is_set words (place + k)) → n ≡ number_of_bits (take width (drop place (bits_of words len)))
number_read words len place width n l f h =
    sym (number_of_low width n f) ∙ ap number_of_bits (ext_get_or false (low_bits width n) part (low_length width n ∙ sym long) each) where
      whole : length (bits_of words len) ≡ len
      whole = bits_length words len

      part : List Bool
      part = take width (drop place (bits_of words len))

      long : length part ≡ width
      long = length-take-le width (drop place (bits_of words len)) (omega (arith, whole, length-drop place (bits_of words len)))

      each : (i : ℕ) → i < length (low_bits width n) → get_or (low_bits width n) i false ≡ get_or part i false
      each i p =
          let q : i < width = omega (arith, low_length width n) in
          low_at width n i false q
          ∙ h i q
          ∙ sym (get_or-take width (drop place (bits_of words len)) i false q ∙ get_or-drop place (bits_of words len) i false ∙ bits_at words len (place + i) false (omega arith))

-- bits that are copied down
pub bits_copied : (old new : List ℕ) (len from to count : ℕ) → to ≤ from → from + count ≤ len → ((k : ℕ) → k < count → is_set new (to + k) ≡ is_set old (from + k)) → ((i : ℕ) → i < to → is_set new i ≡ is_set old i) → ((i : ℕ) → to + count ≤ i → is_set new i ≡ is_set old i) → bits_of new len ≡ take to (bits_of old len) ++ take count (drop from (bits_of old len)) ++ drop (to + count) (bits_of old len)
bits_copied old new len from to count d l inside below above =
    bits_are new len (first ++ (part ++ last)) long each ∙ sym (append_assoc first part last) where
      bits : List Bool
      bits = bits_of old len

      first : List Bool
      first = take to bits

      part : List Bool
      part = take count (drop from bits)

      last : List Bool
      last = drop (to + count) bits

      whole : length bits ≡ len
      whole = bits_length old len

      front : length first ≡ to
      front = length-take-le to bits (omega (arith, whole))

      middle : length part ≡ count
      middle = length-take-le count (drop from bits) (omega (arith, whole, length-drop from bits))

      long : length (first ++ (part ++ last)) ≡ len
      long = omega (arith, length-append first (part ++ last), length-append part last, front, middle, whole, length-drop (to + count) bits)

      each : (i : ℕ) → i < len → is_set new i ≡ get_or (first ++ (part ++ last)) i false
      each i h = elim (cases_lt i to) [
        | inl a ↦
            below i a
            ∙ sym (get_or_append_left first (part ++ last) false i (omega (arith, front)) ∙ get_or-take to bits i false a ∙ bits_at old len i false h)
        | inr a ↦ elim (cases_lt i (to + count)) [
          | inl b ↦
              let place : to + (i - to) ≡ i = omega arith in
              sym (ap (is_set new) place)
              ∙ inside (i - to) (omega arith)
              ∙ sym (get_or-append_right first (part ++ last) to i false front a ∙ get_or_append_left part last false (i - to) (omega (arith, middle)) ∙ get_or-take count (drop from bits) (i - to) false (omega arith) ∙ get_or-drop from bits (i - to) false ∙ bits_at old len (from + (i - to)) false (omega arith))
          | inr b ↦
              let place : to + count + (i - to - count) ≡ i = omega arith in
              above i b
              ∙ sym (get_or-append_right first (part ++ last) to i false front a ∙ get_or-append_right part last count (i - to) false middle (omega arith) ∙ get_or-drop (to + count) bits (i - to - count) false ∙ ap (λ k. get_or bits k false) place ∙ bits_at old len i false h)
        ]
      ]

pub packed_copied : (old new : List ℕ) (len room to count capacity : ℕ) → ArePacked old len room capacity → length new ≡ length old → to + count ≤ len → ((i : ℕ) → to + count ≤ i → is_set new i ≡ is_set old i) → ArePacked new len room capacity
packed_copied old new len room to count capacity p c l above = record {
  within = p.within;
  count = c ∙ p.count;
  memory = p.memory;
  unused = λ i h. above i (omega arith) ∙ p.unused i h;
}

-- the first bits
pub bits_cut : (old new : List ℕ) (len n : ℕ) → n ≤ len → IsCut old new n → bits_of new n ≡ take n (bits_of old len)
bits_cut old new len n l c =
    let whole = bits_length old len in
    bits_are new n (take n (bits_of old len)) (length-take-le n (bits_of old len) (omega (arith, whole))) (λ i h. cut_front old new n i c h ∙ sym (get_or-take n (bits_of old len) i false h ∙ bits_at old len i false (omega arith)))

pub packed_cut : (old new : List ℕ) (len n room before after : ℕ) → ArePacked old len room before → length new ≡ word_count n → n ≤ len → IsCut old new n → after ≡ before → ArePacked new n room after
packed_cut old new len n room before after p c l cut e = record {
  within = omega (arith, p.within);
  count = c;
  memory = omega (arith, p.memory);
  unused = λ i h. cut_rest old new n i cut h;
}
