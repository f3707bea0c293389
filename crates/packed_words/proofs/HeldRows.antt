-- Rows that packed bits hold, as rows come and go.
use Rattle.std.proofs.Common.{◌≡◌, ℕ, ◌+◌, ◌*◌, ◌^◌, ◌<◌, ◌≤◌, Bool, false, List, [], ◌∷◌, ◌++◌, length, take, drop, get_or, sym, ap, ◌∙◌, arith, suc-mul, add-one, mul-le-mul_right, pow_mono, sum}
use Rattle.std.specs.List.{AllZip}
use Rattle.std.proofs.lemmas.List.{length-append, length-take, drop-drop}
use Rattle.std.proofs.lemmas.List.Elements.{length_all_zip, All-get_or}
use Rattle.std.proofs.lemmas.List.Sums.{sum_by_more_le}
use Rattle.cube_values.specs.BitRows.{has_bit, is_set, bits_of}
use Rattle.cube_values.proofs.BitWords.{bits_at}
use Rattle.packed_words.specs.Words.{PackedBits}
use Rattle.packed_words.specs.Rows.{NumberRows, HasWidth, HoldPackedRows, lowest_bit_of, number_in_rows, row_bits, rows_of_bits}
use Rattle.packed_words.specs.declared.packed_rows.PackedRows.TheInside.{Inside}
use Rattle.packed_words.specs.Numbers.{number_of_bits}
use Rattle.packed_words.proofs.Numbers.{number_below}
use Rattle.packed_words.proofs.RowLists.{row_at, number_in_row, rows_long, row_length, rows_more, rows_taken, number_within, number_bit}

-- the rows as contracts see them
abbrev pub seen : Inside → NumberRows
seen r = record { widths = r.widths.items; rows = rows_of_bits r.widths.items r.rows r.bits.bits; room = r.room }

pub seen_length : (r : Inside) (v : NumberRows) → seen r ≡ v → length v.rows ≡ r.rows
seen_length r v e = ap (λ (v : NumberRows). length v.rows) (sym e) ∙ rows_long r.widths.items r.rows r.bits.bits

module _ (widths : List ℕ) (width rows room : ℕ) (packed : PackedBits) (h : HoldPackedRows widths width rows room packed) where
  -- one row more
  pub row_room : rows < room → length packed.bits + sum widths ≤ packed.room
  row_room l = omega (arith, h.long, h.memory, h.total, suc-mul rows width, mul-le-mul_right width l)

  pub long_rows : length packed.bits ≡ rows * sum widths
  long_rows = h.long ∙ ap (λ w. rows * w) h.total

  pub hold_more : (row : List ℕ) (new : PackedBits) → AllZip HasWidth row widths → rows < room → new ≡ record packed { bits = packed.bits ++ row_bits widths row } → HoldPackedRows widths width (rows + 1) room new
  hold_more row new a l e = record {
    total = h.total;
    narrow = h.narrow;
    few = h.few;
    fits = h.fits;
    long =
        ap (λ (p : PackedBits). length p.bits) e
        ∙ length-append packed.bits (row_bits widths row)
        ∙ omega (arith, h.long, h.total, row_length widths row (length_all_zip HasWidth row widths a), suc-mul rows width);
    within = omega arith;
    memory = omega (arith, h.memory, ap (λ (p : PackedBits). p.room) e);
  }

  pub rows_pushed : (row : List ℕ) (new : PackedBits) → AllZip HasWidth row widths → new ≡ record packed { bits = packed.bits ++ row_bits widths row } → rows_of_bits widths (rows + 1) new.bits ≡ rows_of_bits widths rows packed.bits ++ row ∷ []
  rows_pushed row new a e =
      (λ t. rows_of_bits widths (add-one rows t) (e t).bits) ∙ rows_more widths row rows packed.bits long_rows a

  -- a row and those before it within the room
  pub rows_fit : (n : ℕ) → n ≤ rows → n * width < 2 ^ 64
  rows_fit n l = omega (arith, h.fits, mul-le-mul_right width l, mul-le-mul_right width h.within)

  -- the rows before a place
  pub rows_within : (n : ℕ) → n ≤ rows → n * width ≤ length packed.bits
  rows_within n l = omega (arith, h.long, mul-le-mul_right width l)

  -- the words of the bits
  pub words_of : (words : List ℕ) → bits_of words (length packed.bits) ≡ packed.bits → (t i k : ℕ) → t < rows → i < length widths → k < get_or widths i 0 → is_set words (lowest_bit_of widths t i + k) ≡ has_bit (number_in_rows (rows_of_bits widths rows packed.bits) t i) k
  words_of words e t i k ht hi hk =
      let place : ℕ = lowest_bit_of widths t i + k in
      let inside : place < length packed.bits = omega (arith, long_rows, number_within widths t i k rows ht hi hk) in
      sym (bits_at words (length packed.bits) place false inside)
      ∙ ap (λ bits. get_or bits place false) e
      ∙ number_bit widths rows t i k packed.bits long_rows ht hi hk

  -- a number that is read
  pub number_there : (t i : ℕ) → t < rows → i < length widths → number_of_bits (take (get_or widths i 0) (drop (t * width + sum (take i widths)) packed.bits)) ≡ number_in_rows (rows_of_bits widths rows packed.bits) t i
  number_there t i ht hi =
      let place = ap (λ w. t * w + sum (take i widths)) h.total in
      ap (λ n. number_of_bits (take (get_or widths i 0) (drop n packed.bits))) place
      ∙ ap (λ bits. number_of_bits (take (get_or widths i 0) bits)) (sym (drop-drop (sum (take i widths)) (t * sum widths) packed.bits))
      ∙ sym (ap (λ row. get_or row i 0) (row_at widths rows t packed.bits ht) ∙ number_in_row widths i (drop (t * sum widths) packed.bits) hi)

  -- a number lies within the bits and is small
  pub number_inside : (t i : ℕ) → t < rows → i < length widths → t * width + sum (take i widths) + get_or widths i 0 ≤ length packed.bits
  number_inside t i ht hi =
      omega (arith, h.long, h.total, sum_by_more_le (λ x. x) widths i 0 hi, suc-mul t width, mul-le-mul_right width ht)

  pub number_narrow : (i : ℕ) → i < length widths → get_or widths i 0 ≤ 32
  number_narrow i hi = All-get_or (λ w. w ≤ 32) widths i 0 hi h.narrow

-- the number of few bits is small
pub number_small : (width place : ℕ) (bits : List Bool) → width ≤ 32 → number_of_bits (take width (drop place bits)) < 2 ^ 32
number_small width place bits h =
    let below = number_below (take width (drop place bits)) in
    let most : length (take width (drop place bits)) ≤ 32 = omega (arith, length-take width (drop place bits)) in
    omega (arith, below, pow_mono most)

-- rows of which some are left
pub rows_cut : (widths : List ℕ) (n m : ℕ) (bits : List Bool) (rows : List (List ℕ)) → n * sum widths ≡ m → m ≤ length bits → rows_of_bits widths n bits ≡ rows → rows_of_bits widths n (take m bits) ≡ rows
rows_cut widths n m bits rows e l r = rows_taken widths n m bits (omega arith) l ∙ r
