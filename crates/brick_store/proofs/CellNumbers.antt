-- Numbers beside cells, one more at a time.
use Rattle.std.proofs.Common.{◌≡◌, ℕ, ◌+◌, ◌<◌, ◌==◌, ℤ, pos, Bool, true, false, cond, List, [], ◌∷◌, length, map, take, filter, fold, get_or, set, All, count_by, ◌+ℤ◌, refl, sym, ap, subst, ◌∙◌, arith, inl, inr}
use Rattle.std.specs.Int.{int_min, int_max}
use Rattle.std.specs.List.{zip}
use Rattle.std.proofs.lemmas.Bool.{cases_eq}
use Rattle.std.proofs.lemmas.List.{get_or-set_same, get_or-set_other}
use Rattle.std.proofs.lemmas.List.Elements.{All-head, All-tail}
use Rattle.std.proofs.lemmas.List.Sums.{sum_by_more, sum_by-cons}
use Rattle.agg_fold.specs.declared.tally.Tally.TheVariants.{Unused, Total, Least, Greatest}
use Rattle.agg_fold.specs.Tallies.{tally_with}
use Rattle.packed_words.specs.Counted.{numbers_in}
use Rattle.packed_words.proofs.CellNumbers.{same_cell, other_cell, folded_more}

-- a write at the cell of the next number
pub written : (f : ℤ → ℤ → ℤ) (old now : List ℤ) (cells : List ℕ) (numbers : List ℤ) (i cell : ℕ) (v : ℤ) → i < length cells → i < length numbers → get_or cells i 0 < length now
    → v ≡ f (get_or now (get_or cells i 0) (pos 0)) (get_or numbers i (pos 0))
    → get_or now cell (pos 0) ≡ fold f (get_or old cell (pos 0)) (numbers_in cell (take i cells) (take i numbers))
    → get_or (set now (get_or cells i 0) v) cell (pos 0) ≡ fold f (get_or old cell (pos 0)) (numbers_in cell (take (i + 1) cells) (take (i + 1) numbers))
written f old now cells numbers i cell v p q w is before =
    let k = get_or cells i 0 in
    elim (cases_eq k cell) [
      | inl e ↦
          ap (λ (j : ℕ). get_or (set now k v) j (pos 0)) (sym e)
          ∙ get_or-set_same now k v (pos 0) w
          ∙ is
          ∙ ap (λ (j : ℕ). f (get_or now j (pos 0)) (get_or numbers i (pos 0))) e
          ∙ ap (λ (x : ℤ). f x (get_or numbers i (pos 0))) before
          ∙ sym (folded_more f (get_or old cell (pos 0)) cell cells numbers i p q true (same_cell k cell e))
      | inr ne ↦
          get_or-set_other now k cell v (pos 0) (λ e. ne (sym e))
          ∙ before
          ∙ sym (folded_more f (get_or old cell (pos 0)) cell cells numbers i p q false (other_cell k cell ne))
    ]

-- a cell counted once more
pub counted : (old now cells : List ℕ) (i cell : ℕ) → i < length cells → get_or cells i 0 < length now
    → get_or now cell 0 ≡ get_or old cell 0 + count_by (λ c. c == cell) (take i cells)
    → get_or (set now (get_or cells i 0) (get_or now (get_or cells i 0) 0 + 1)) cell 0 ≡ get_or old cell 0 + count_by (λ c. c == cell) (take (i + 1) cells)
counted old now cells i cell p w before =
    let k = get_or cells i 0 in
    let more = sum_by_more (λ c. cond (c == cell) 1 0) cells i 0 p in
    elim (cases_eq k cell) [
      | inl e ↦
          let one = ap (λ (b : Bool). cond {A = ℕ} b 1 0) (same_cell k cell e) in
          let here = ap (λ (j : ℕ). get_or (set now k (get_or now k 0 + 1)) j 0) (sym e) ∙ get_or-set_same now k (get_or now k 0 + 1) 0 w ∙ ap (λ (j : ℕ). get_or now j 0 + 1) e in
          omega (arith, here, one, more, before)
      | inr ne ↦
          let none = ap (λ (b : Bool). cond {A = ℕ} b 1 0) (other_cell k cell ne) in
          let here = get_or-set_other now k cell (get_or now k 0 + 1) 0 (λ e. ne (sym e)) in
          omega (arith, here, none, more, before)
    ]

-- what holds of a number and of the others holds after a write
pub set_keeps : (P : ℤ → Type 0) (now : List ℤ) (k cell : ℕ) (v : ℤ) → k < length now → P v → P (get_or now cell (pos 0)) → P (get_or (set now k v) cell (pos 0))
set_keeps P now k cell v w new old =
    elim (cases_eq k cell) [
      | inl e ↦ subst P (sym (ap (λ (j : ℕ). get_or (set now k v) j (pos 0)) (sym e) ∙ get_or-set_same now k v (pos 0) w)) new
      | inr ne ↦ subst P (sym (get_or-set_other now k cell v (pos 0) (λ e. ne (sym e)))) old
    ]

-- tallies of numbers, by their kinds
pub nothing_kept : (ns : List ℤ) → fold tally_with Unused ns ≡ Unused
nothing_kept [] = refl
nothing_kept (n ∷ ns) = nothing_kept ns

pub sums_kept : (x : ℤ) (ns : List ℤ) → fold tally_with (Total x) ns ≡ Total (fold ◌+ℤ◌ x ns)
sums_kept x [] = refl
sums_kept x (n ∷ ns) = sums_kept (x +ℤ n) ns

pub lows_kept : (x : ℤ) (ns : List ℤ) → fold tally_with (Least x) ns ≡ Least (fold int_min x ns)
lows_kept x [] = refl
lows_kept x (n ∷ ns) = lows_kept (int_min x n) ns

pub highs_kept : (x : ℤ) (ns : List ℤ) → fold tally_with (Greatest x) ns ≡ Greatest (fold int_max x ns)
highs_kept x [] = refl
highs_kept x (n ∷ ns) = highs_kept (int_max x n) ns

-- where there is one cell, each row is in it
pub all_counted : (cells : List ℕ) → All (λ c. c < 1) cells → count_by (λ c. c == 0) cells ≡ length cells
all_counted [] h = refl
all_counted (c ∷ cells) h =
    let one = ap (λ (b : Bool). cond {A = ℕ} b 1 0) (same_cell c 0 (omega (arith, All-head (λ (c : ℕ). c < 1) c cells h))) in
    omega (arith, sum_by-cons (λ c. cond (c == 0) 1 0) c cells, one, all_counted cells (All-tail (λ (c : ℕ). c < 1) c cells h))

pub all_in_one : (cells : List ℕ) (numbers : List ℤ) → length cells ≡ length numbers → All (λ c. c < 1) cells → numbers_in 0 cells numbers ≡ numbers
all_in_one [] [] p h = refl
all_in_one [] (n ∷ numbers) p h = absurd (omega arith)
all_in_one (c ∷ cells) [] p h = absurd (omega arith)
all_in_one (c ∷ cells) (n ∷ numbers) p h =
    ap (λ (b : Bool). map (λ (p : ℕ × ℤ). p.1) (cond b ((c, n) ∷ filter (λ (p : ℕ × ℤ). p.0 == 0) (zip cells numbers)) (filter (λ (p : ℕ × ℤ). p.0 == 0) (zip cells numbers)))) (same_cell c 0 (omega (arith, All-head (λ (c : ℕ). c < 1) c cells h)))
    ∙ ap (λ (l : List ℤ). n ∷ l) (all_in_one cells numbers (omega arith) (All-tail (λ (c : ℕ). c < 1) c cells h))
