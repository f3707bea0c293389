-- Rows that were kept, below what a copy has of a brick.
use Rattle.std.proofs.Common.{◌≡◌, ◌∙◌, ℕ, zero, suc, ◌+◌, Bool, true, false, not, ◌&&◌, ◌||◌, nat_lt, List, [], ◌∷◌, ◌++◌, append_assoc, append-nil, inl, inr, refl, sym, ap, arith, lt-ltb, le-ltb}
use Rattle.std.specs.List.{count_by}
use Rattle.cube_values.specs.declared.row.CodedRow.{CodedRow}
use Rattle.core_events.specs.ShardView.{BrickEntry, RowRun, RowMark, EpochSet, is_below_mark, epochs_before_mark, every_epoch, rows_where, rows_shown_to, rows_over_kept}
use Rattle.core_events.proofs.Counts.{number_where, count-append, count-where, in-order}

below-over : (marks : EpochSet) (e at : ℕ) (kept : List CodedRow) (xs : List BrickEntry)
    → is_below_mark marks e (xs ++ RowRun at kept ∷ []) ≡ is_below_mark marks e xs
below-over marks e at kept [] = refl
below-over marks e at kept (RowRun j rows ∷ xs) = below-over marks e at kept xs
below-over marks e at kept (RowMark d ∷ xs) = ap (λ b. (marks d && nat_lt e d) || b) (below-over marks e at kept xs)

not-below : (g d : ℕ) → nat_lt d (suc g) ≡ not (nat_lt g d)
not-below g d = elim (in-order d g) [
  | inl low ↦ lt-ltb d (suc g) (omega (arith, low)) ∙ ap not (sym (le-ltb g d (omega (arith, low))))
  | inr (inl same) ↦ lt-ltb d (suc g) (omega (arith, same)) ∙ ap not (sym (le-ltb g d (omega (arith, same))))
  | inr (inr high) ↦ le-ltb d (suc g) (omega (arith, high)) ∙ ap not (sym (lt-ltb g d high))
]

hidden-twice : (a b c : Bool) → ((a && not b) && not c) ≡ (a && not (b || c))
hidden-twice true true c = refl
hidden-twice true false c = refl
hidden-twice false b c = refl

hidden-before : (here : Bool) (g d : ℕ) (epochs : EpochSet) (b : Bool)
    → (epochs_before_mark here d epochs (suc g) && not b) ≡ (epochs (suc g) && not ((here && nat_lt g d) || b))
hidden-before true g d epochs b =
    (λ i. (epochs (suc g) && not-below g d i) && not b) ∙ hidden-twice (epochs (suc g)) (nat_lt g d) b
hidden-before false g d epochs b = refl

pub over-run : (g : ℕ) (kept : List CodedRow) (epochs marks : EpochSet) (xs : List BrickEntry)
    → rows_shown_to epochs marks (xs ++ RowRun (suc g) kept ∷ [])
    ≡ rows_where (epochs (suc g) && not (is_below_mark marks g xs)) kept ++ rows_shown_to epochs marks xs
over-run g kept epochs marks [] = sym (append-nil (rows_where (epochs (suc g) && true) kept))
over-run g kept epochs marks (RowRun j rows ∷ xs) =
    (λ i. over-run g kept epochs marks xs i ++ rows_where (epochs j && not (below-over marks j (suc g) kept xs i)) rows)
    ∙ append_assoc (rows_where (epochs (suc g) && not (is_below_mark marks g xs)) kept) (rows_shown_to epochs marks xs)
    (rows_where (epochs j && not (is_below_mark marks j xs)) rows)
over-run g kept epochs marks (RowMark d ∷ xs) =
    over-run g kept (epochs_before_mark (marks d) d epochs) marks xs
    ∙ (λ i. rows_where (hidden-before (marks d) g d epochs (is_below_mark marks g xs) i) kept
    ++ rows_shown_to (epochs_before_mark (marks d) d epochs) marks xs)

where-none : (b : Bool) → rows_where b [] ≡ []
where-none true = refl
where-none false = refl

pub over-none : (at : ℕ) (epochs marks : EpochSet) (xs : List BrickEntry)
    → rows_shown_to epochs marks (xs ++ RowRun at [] ∷ []) ≡ rows_shown_to epochs marks xs
over-none at epochs marks [] = where-none (epochs at && true)
over-none at epochs marks (RowRun j rows ∷ xs) =
    λ i. over-none at epochs marks xs i ++ rows_where (epochs j && not (below-over marks j at [] xs i)) rows
over-none at epochs marks (RowMark d ∷ xs) = over-none at (epochs_before_mark (marks d) d epochs) marks xs

-- Nothing is kept up to epoch 0.
abbrev pub NoneAtZero : ℕ → List CodedRow → Type 0
NoneAtZero from kept = from ≡ 0 → kept ≡ []

-- Of kept rows that are as many, as many are left.
pub over-counts : (c : CodedRow → Bool) (from : ℕ) (kept more : List CodedRow) (xs : List BrickEntry)
    → NoneAtZero from kept → NoneAtZero from more → count_by c kept ≡ count_by c more
    → count_by c (rows_over_kept from kept xs) ≡ count_by c (rows_over_kept from more xs)
over-counts c zero kept more xs none none-more same =
    ap (λ (rows : List CodedRow). count_by c (rows_over_kept zero rows xs)) (none refl ∙ sym (none-more refl))
over-counts c (suc g) kept more xs none none-more same =
    let here = not (is_below_mark every_epoch g xs) in
    let shown = rows_shown_to every_epoch every_epoch xs in
    let count = λ (rows : List CodedRow).
    ap (count_by c) (over-run g rows every_epoch every_epoch xs)
    ∙ count-append c (rows_where here rows) shown
    ∙ ap (λ (n : ℕ). n + count_by c shown) (count-where c here rows)
    in
    count kept ∙ ap (λ (n : ℕ). number_where here n + count_by c shown) same ∙ sym (count more)
