-- Numbers by cells, counted and summed in one word for each cell.
-- Source: a sum and a count side by side in one machine word; the form is this project's own.
use Rattle.std.specs.Prelude.{◌≡◌, ℕ, ◌+◌, ◌*◌, ◌/◌, ◌%◌, ◌^◌, ◌<◌, ◌==◌, ℤ, pos, ◌+ℤ◌, ◌-ℤ◌, ◌<ℤ◌, neg_ℤ, List, length, map, filter, take, fold, slice_index, count_by}
use Rattle.std.specs.List.{zip}
use Rattle.cube_values.specs.BitRows.{has_bit, is_set}

-- Of numbers beside cells, those of a cell.
abbrev pub numbers_in : ℕ → List ℕ → List ℤ → List ℤ
numbers_in cell cells numbers = map (λ p. p.1) (filter (λ p. p.0 == cell) (zip cells numbers))

-- A number within 2 ^ 41.
abbrev pub IsShort : ℤ → Type 0
IsShort n = (neg_ℤ (pos (2 ^ 41)) <ℤ n) × (n <ℤ pos (2 ^ 41))

-- What a word has counted: the number in its bits from bit 52 on.
abbrev pub counted_in : ℕ → ℕ
counted_in word = word / 2 ^ 52

-- What a word has summed: the number in its lowest 52 bits, less 2 ^ 51.
abbrev pub summed_in : ℕ → ℤ
summed_in word = pos (word % 2 ^ 52) -ℤ pos (2 ^ 51)

-- The words have counted and summed the numbers, each word those of its cell.
pub record AreCounted (cells : List ℕ) (numbers : List ℤ) (words : List ℕ) : Type 0 where
  pub counts : (cell : ℕ) → cell < length words → counted_in (slice_index words cell) ≡ count_by (λ c. c == cell) cells
  pub sums :
      (cell : ℕ) → cell < length words
      → summed_in (slice_index words cell) ≡ fold ◌+ℤ◌ (pos 0) (numbers_in cell cells numbers)

-- Each word is 2 ^ 51, 2 ^ 52 for each number of its cell, and these numbers.
abbrev pub AreAdded : List ℕ → List ℤ → List ℕ → Type 0
AreAdded cells numbers words =
    (cell : ℕ) → cell < length words
    → pos (slice_index words cell)
    ≡ pos (2 ^ 51 + 2 ^ 52 * count_by (λ c. c == cell) cells) +ℤ fold ◌+ℤ◌ (pos 0) (numbers_in cell cells numbers)

-- The same of the first n numbers.
abbrev pub AreAddedUpTo : ℕ → List ℕ → List ℤ → List ℕ → Type 0
AreAddedUpTo n cells numbers words = AreAdded (take n cells) (take n numbers) words

-- Numbers stand in words, each in `width` bits: the first from a place on, and each other one `step` bits further.
pub record StandAt (words : List ℕ) (place step width : ℕ) (numbers : List ℕ) : Type 0 where
  pub bits :
      (k bit : ℕ) → k < length numbers → bit < width
      → has_bit (slice_index numbers k) bit ≡ is_set words (place + k * step + bit)
  pub below : (k : ℕ) → k < length numbers → slice_index numbers k < 2 ^ width
