-- Lists of bits in words of 64, with room to grow.
use Rattle.std.specs.Prelude.{◌≡◌, ℕ, ◌+◌, ◌-◌, ◌*◌, ◌/◌, ◌%◌, ◌<◌, ◌≤◌, ◌==◌, Bool, false, List, ◌++◌, length, map, take, drop, replicate, slice_index, count_by, min}
use Rattle.std.specs.Int.{bit_at}
use Rattle.std.specs.List.{range_with_len}

-- A list of bits, and how many bits there is memory for.
pub record BitRows : Type 0 where
  pub bits : List Bool
  pub room : ℕ

-- Whether bit k of a word is set, counted from its lowest bit.
unfoldable pub has_bit : ℕ → ℕ → Bool
has_bit word k = bit_at word k == 1

-- Bit i of a list of words is bit i mod 64 of word i div 64.
unfoldable pub is_set : List ℕ → ℕ → Bool
is_set words i = has_bit (slice_index words (i / 64)) (i % 64)

-- The first n bits of a list of words.
unfoldable pub bits_of : List ℕ → ℕ → List Bool
bits_of words n = map (is_set words) (range_with_len 0 n)

-- How many words n bits take: the last of them may be filled_bits in part.
abbrev pub word_count : ℕ → ℕ
word_count n = n / 64 + min 1 (n % 64)

-- The bits, with those from `from` up to `to` turned `on`, and the others as they were.
abbrev pub filled_bits : List Bool → ℕ → ℕ → Bool → List Bool
filled_bits bits from to on = take from bits ++ replicate (to - from) on ++ drop to bits

-- How many of the bits are set.
abbrev pub set_bits : List Bool → ℕ
set_bits bits = count_by (λ bit. bit) bits

-- The new words are the old ones with the bits from `from` up to `to` turned `on`.
pub record IsFilled (old new : List ℕ) (from to : ℕ) (on : Bool) : Type 0 where
  pub long : length new ≡ length old
  pub inside : (i : ℕ) → from ≤ i → i < to → is_set new i ≡ on
  pub below : (i : ℕ) → i < from → is_set new i ≡ is_set old i
  pub above : (i : ℕ) → to ≤ i → is_set new i ≡ is_set old i

-- The words have the room, and in the last word in use no bit is set from the length on.
pub record IsWellFormed (words : List ℕ) (len room : ℕ) : Type 0 where
  pub within : len ≤ room
  pub held : length words ≡ word_count room
  pub unused : (i : ℕ) → len ≤ i → i < 64 * word_count len → is_set words i ≡ false
