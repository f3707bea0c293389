-- Rows of numbers, each number in so many bits, one after another without a gap.
-- Source: Cubrick (VLDB 2016), packed dimension columns; that they are packed row by row is this project's own.
use Rattle.std.specs.Prelude.{◌≡◌, ℕ, ◌+◌, ◌-◌, ◌*◌, ◌^◌, ◌<◌, ◌≤◌, zero, suc, Bool, false, List, [], ◌∷◌, ◌++◌, length, map, take, drop, sum, All, slice_index_or, slice_index}
use Rattle.std.specs.List.{zip}
use Rattle.cube_values.specs.BitRows.{has_bit, is_set, word_count}
use Rattle.packed_words.specs.declared.packed_rows.TheConstants.{MOST_BITS}
use Rattle.packed_words.specs.Numbers.{number_of_bits, low_bits}
use Rattle.packed_words.specs.Words.{PackedBits}

-- Rows of numbers, how many bits each number of a row has, and for how many rows there is memory.
pub record NumberRows : Type 0 where
  pub widths : List ℕ
  pub rows : List (List ℕ)
  pub room : ℕ

-- A number can be written in so many bits.
abbrev pub HasWidth : ℕ → ℕ → Type 0
HasWidth n width = n < 2 ^ width

-- What numbers are above others.
abbrev pub differences : List ℕ → List ℕ → List ℕ
differences numbers starts = map (λ p. p.0 - p.1) (zip numbers starts)

-- Number i of row t.
abbrev pub number_in_rows : List (List ℕ) → ℕ → ℕ → ℕ
number_in_rows rows t i = slice_index (slice_index_or rows t []) i

-- The place of the lowest bit of number i of row t: behind t rows and i numbers.
abbrev pub lowest_bit_of : List ℕ → ℕ → ℕ → ℕ
lowest_bit_of widths t i = t * sum widths + sum (take i widths)

-- The words that hold rows: bit k of each number stands k places from that of its lowest bit, there are as many
-- words as these bits take, and no other bit is set.
pub record AreWords (widths : List ℕ) (rows : List (List ℕ)) (words : List ℕ) : Type 0 where
  pub count : length words ≡ word_count (length rows * sum widths)
  pub bits :
      (t i k : ℕ) → t < length rows → i < length widths → k < slice_index widths i
      → is_set words (lowest_bit_of widths t i + k) ≡ has_bit (number_in_rows rows t i) k
  pub unused : (i : ℕ) → length rows * sum widths ≤ i → is_set words i ≡ false

-- The bits of a row: those of its numbers, one number after another.
abbrev pub row_bits : List ℕ → List ℕ → List Bool
row_bits (width ∷ widths) (n ∷ numbers) = low_bits width n ++ row_bits widths numbers
row_bits widths numbers = []

-- The numbers that stand at the front of bits.
abbrev pub row_of_bits : List ℕ → List Bool → List ℕ
row_of_bits [] bits = []
row_of_bits (width ∷ widths) bits = number_of_bits (take width bits) ∷ row_of_bits widths (drop width bits)

-- The n rows that stand at the front of bits.
abbrev pub rows_of_bits : List ℕ → ℕ → List Bool → List (List ℕ)
rows_of_bits widths zero bits = []
rows_of_bits widths (suc n) bits = row_of_bits widths bits ∷ rows_of_bits widths n (drop (sum widths) bits)

-- Packed bits hold so many rows of the widths, each of `width` bits, and have room for more of them.
pub record HoldPackedRows (widths : List ℕ) (width rows room : ℕ) (packed : PackedBits) : Type 0 where
  pub total : width ≡ sum widths
  pub narrow : All (λ w. w ≤ MOST_BITS) widths
  pub few : width < 2 ^ 32
  pub fits : room * width < 2 ^ 64
  pub long : length packed.bits ≡ rows * width
  pub within : rows ≤ room
  pub memory : room * width ≤ packed.room
