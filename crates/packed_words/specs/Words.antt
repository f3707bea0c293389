-- Lists of bits in words of 64, as bits come to them, are replaced and go.
use Rattle.std.specs.Prelude.{◌≡◌, ℕ, ◌+◌, ◌-◌, ◌<◌, ◌≤◌, Bool, false, nat_lt, List, length, if◌then◌else◌}
use Rattle.cube_values.specs.BitRows.{has_bit, is_set, word_count}

-- A list of bits, and how many bits there is memory for.
pub record PackedBits : Type 0 where
  pub bits : List Bool
  pub room : ℕ

-- The words have just the bits, and memory for the room. No bit behind the last one is set.
pub record ArePacked (words : List ℕ) (len room capacity : ℕ) : Type 0 where
  pub within : len ≤ room
  pub count : length words ≡ word_count len
  pub memory : word_count room ≤ capacity
  pub unused : (i : ℕ) → len ≤ i → is_set words i ≡ false

-- The new words have the first `len` bits of the old ones, and then the bits of a number.
abbrev pub IsAppended : List ℕ → List ℕ → ℕ → ℕ → Type 0
IsAppended old new len value =
    (i : ℕ) → is_set new i ≡ (if nat_lt i len then is_set old i else has_bit value (i - len))

-- The new words are the old ones with `width` bits from `place` on replaced by those of a number.
pub record IsReplaced (old new : List ℕ) (place width value : ℕ) : Type 0 where
  pub long : length new ≡ length old
  pub inside : (k : ℕ) → k < width → is_set new (place + k) ≡ has_bit value k
  pub below : (i : ℕ) → i < place → is_set new i ≡ is_set old i
  pub above : (i : ℕ) → place + width ≤ i → is_set new i ≡ is_set old i

-- The new words have the first `len` bits of the old ones, and no other bit is set.
abbrev pub IsCut : List ℕ → List ℕ → ℕ → Type 0
IsCut old new len = (i : ℕ) → is_set new i ≡ (if nat_lt i len then is_set old i else false)
