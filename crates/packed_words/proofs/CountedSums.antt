-- Words that count and sum numbers by cells.
use Rattle.std.proofs.Common.{◌≡◌, ℕ, suc, ◌+◌, ◌*◌, ◌^◌, ◌<◌, ◌≤◌, ◌==◌, ℤ, pos, ◌+ℤ◌, ◌-ℤ◌, ◌≤ℤ◌, Bool, true, false, cond, List, [], ◌∷◌, length, map, take, filter, fold, get_or, set, All, count_by, w64, to_z, of_z, sym, ap, subst, ◌∙◌, arith, inl, inr}
use Rattle.std.specs.List.{zip}
use Rattle.std.proofs.lemmas.Bool.{cases_eq}
use Rattle.std.proofs.lemmas.Int.{ints, to_z-of_z}
use Rattle.std.proofs.lemmas.List.{ext_get_or, length-set, get_or-set_same, get_or-set_other}
use Rattle.std.proofs.lemmas.List.Elements.{All-head, All-tail}
use Rattle.std.proofs.lemmas.List.Sums.{sum_by_more}
use Rattle.std.proofs.Math.Seq.{take-length}
use Rattle.cube_values.specs.BitRows.{has_bit}
use Rattle.packed_words.specs.Numbers.{number_of_bits, low_bits}
use Rattle.packed_words.specs.Counted.{IsShort, AreAdded, AreAddedUpTo, AreCounted, numbers_in}
use Rattle.packed_words.proofs.Numbers.{low_length, low_at, number_of_low}
use Rattle.packed_words.proofs.CellNumbers.{same_cell, other_cell, folded_more}

-- a short number is what 64 bits hold of it
pub held_number : (n : ℤ) → IsShort n → to_z w64 (of_z w64 n) ≡ n
held_number n short =
    let (low, high) = short in
    to_z-of_z w64 n (omega (arith, ints, low, high))

-- numbers of one width that have the same bits
pub same_number : (width m n : ℕ) → m < 2 ^ width → n < 2 ^ width → ((k : ℕ) → k < width → has_bit m k ≡ has_bit n k) → m ≡ n
same_number width m n p q h =
    sym (number_of_low width m p)
    ∙ ap number_of_bits (ext_get_or false (low_bits width m) (low_bits width n) (low_length width m ∙ sym (low_length width n)) (λ k l.
    let below : k < width = omega (arith, low_length width m) in
    low_at width m k false below ∙ h k below ∙ sym (low_at width n k false below)))
    ∙ number_of_low width n q

-- a word that is written
set_cell : (P : ℕ → Type 0) (now : List ℕ) (k cell v : ℕ) → k < length now → P v → P (get_or now cell 0) → P (get_or (set now k v) cell 0)
set_cell P now k cell v w new old =
    elim (cases_eq k cell) [
      | inl e ↦ subst P (sym (ap (λ (j : ℕ). get_or (set now k v) j 0) (sym e) ∙ get_or-set_same now k v 0 w)) new
      | inr ne ↦ subst P (sym (get_or-set_other now k cell v 0 (λ e. ne (sym e)))) old
    ]

-- one number more
pub added_more : (n : ℕ) (cells : List ℕ) (numbers : List ℤ) (words : List ℕ) (w : ℕ) → n < length cells → n < length numbers → get_or cells n 0 < length words
    → pos w ≡ pos (2 ^ 52) +ℤ get_or numbers n (pos 0)
    → AreAddedUpTo n cells numbers words
    → AreAddedUpTo (n + 1) cells numbers (set words (get_or cells n 0) (get_or words (get_or cells n 0) 0 + w))
added_more n cells numbers words w p q l e before cell h =
    let k = get_or cells n 0 in
    let v = get_or words k 0 + w in
    let was = before cell (omega (arith, length-set words k v)) in
    let more = sum_by_more (λ c. cond (c == cell) 1 0) cells n 0 p in
    elim (cases_eq k cell) [
      | inl same ↦
          let one = ap (λ (b : Bool). cond {A = ℕ} b 1 0) (same_cell k cell same) in
          let sum = folded_more ◌+ℤ◌ (pos 0) cell cells numbers n p q true (same_cell k cell same) in
          let here : get_or (set words k v) cell 0 ≡ get_or words cell 0 + w = ap (λ (j : ℕ). get_or (set words k v) j 0) (sym same) ∙ get_or-set_same words k v 0 l ∙ ap (λ (j : ℕ). get_or words j 0 + w) same in
          omega (arith, ints, here, one, more, was, sum, e)
      | inr ne ↦
          let none = ap (λ (b : Bool). cond {A = ℕ} b 1 0) (other_cell k cell ne) in
          let sum = folded_more ◌+ℤ◌ (pos 0) cell cells numbers n p q false (other_cell k cell ne) in
          let here = get_or-set_other words k cell v 0 (λ e. ne (sym e)) in
          omega (arith, ints, here, none, more, was, sum)
    ]

pub room_more : (n : ℕ) (words : List ℕ) (k w : ℕ) → k < length words → w < 2 ^ 53 → All (λ sum. sum < (n + 1) * 2 ^ 53) words → All (λ sum. sum < (n + 1 + 1) * 2 ^ 53) (set words k (get_or words k 0 + w))
room_more n words k w l small room cell d h =
    let v = get_or words k 0 + w in
    let there : cell < length words = omega (arith, length-set words k v) in
    elim (cases_eq k cell) [
      | inl e ↦ subst (λ (s : ℕ). s < (n + 1 + 1) * 2 ^ 53) (sym (ap (λ (j : ℕ). get_or (set words k v) j d) (sym e) ∙ get_or-set_same words k v d l)) (omega (arith, room k 0 l))
      | inr ne ↦ subst (λ (s : ℕ). s < (n + 1 + 1) * 2 ^ 53) (sym (get_or-set_other words k cell v d (λ e. ne (sym e)))) (omega (arith, room cell d there))
    ]

-- words that have counted nothing
pub added_none : (cells : List ℕ) (numbers : List ℤ) (words : List ℕ) → All (λ sum. sum ≡ 2 ^ 51) words → AreAddedUpTo 0 cells numbers words
added_none cells numbers words h cell l = omega (arith, ints, h cell 0 l)

pub room_none : (words : List ℕ) → All (λ sum. sum ≡ 2 ^ 51) words → All (λ sum. sum < (0 + 1) * 2 ^ 53) words
room_none words h cell d l = omega (arith, h cell d l)

-- sums of short numbers are short
record LieBy (a sum : ℤ) (n : ℕ) : Type 0 where
  pub low : (a -ℤ pos (2199023255551 * n)) ≤ℤ sum
  pub high : sum ≤ℤ (a +ℤ pos (2199023255551 * n))

short_sums : (cell : ℕ) (cells : List ℕ) (numbers : List ℤ) (a : ℤ) → All IsShort numbers → LieBy a (fold ◌+ℤ◌ a (numbers_in cell cells numbers)) (length numbers)
short_sums cell [] numbers a h = record { low = omega (arith, ints); high = omega (arith, ints) }
short_sums cell (c ∷ cells) [] a h = record { low = omega (arith, ints); high = omega (arith, ints) }
short_sums cell (c ∷ cells) (n ∷ numbers) a h = at (c == cell) (short_sums cell cells numbers (a +ℤ n) rest) (short_sums cell cells numbers a rest) where
  rest : All IsShort numbers
  rest = All-tail IsShort n numbers h

  at : (b : Bool) → LieBy (a +ℤ n) (fold ◌+ℤ◌ (a +ℤ n) (numbers_in cell cells numbers)) (length numbers) → LieBy a (fold ◌+ℤ◌ a (numbers_in cell cells numbers)) (length numbers)
      → LieBy a (fold ◌+ℤ◌ a (map (λ (p : ℕ × ℤ). p.1) (cond b ((c, n) ∷ filter (λ (p : ℕ × ℤ). p.0 == cell) (zip cells numbers)) (filter (λ (p : ℕ × ℤ). p.0 == cell) (zip cells numbers))))) (suc (length numbers))
  at true with without =
      let (low, high) = All-head IsShort n numbers h in
      record { low = omega (arith, ints, with.low, low); high = omega (arith, ints, with.high, high) }
  at false with without = record { low = omega (arith, ints, without.low); high = omega (arith, ints, without.high) }

-- what words have counted and summed
pub counted_all : (cells : List ℕ) (numbers : List ℤ) (words : List ℕ) → length cells ≡ length numbers → All IsShort numbers → length numbers ≤ 1024 → AreAddedUpTo (length numbers) cells numbers words → AreCounted cells numbers words
counted_all cells numbers words long short few added = record {
  counts = λ cell h. omega (arith, ints, is cell h, bounds cell);
  sums = λ cell h. omega (arith, ints, is cell h, bounds cell);
}
  where
    all_cells : take (length numbers) cells ≡ cells
    all_cells = ap (λ n. take n cells) (sym long) ∙ take-length cells

    is : (cell : ℕ) → cell < length words → pos (get_or words cell 0) ≡ pos (2 ^ 51 + 2 ^ 52 * count_by (λ c. c == cell) cells) +ℤ fold ◌+ℤ◌ (pos 0) (numbers_in cell cells numbers)
    is cell h = subst (λ (p : List ℕ × List ℤ). AreAdded p.0 p.1 words) (λ t. (all_cells t, take-length numbers t)) added cell h

    bounds : (cell : ℕ) → LieBy (pos 0) (fold ◌+ℤ◌ (pos 0) (numbers_in cell cells numbers)) (length numbers)
    bounds cell = short_sums cell cells numbers (pos 0) short
