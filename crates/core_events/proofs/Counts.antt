-- How many rows of a list pass a test.
use Rattle.std.proofs.Common.{◌≡◌, ◌⊎◌, ◌∙◌, ℕ, ◌+◌, ◌<◌, Bool, true, false, ◌&&◌, cond, filter, fold, List, [], ◌∷◌, ◌++◌, inl, inr, refl, sym, ap, arith}
use Rattle.std.specs.List.{count_by}
use Rattle.std.proofs.lemmas.Bool.Decides.{eqb_tells, leb_tells}
use Rattle.cube_values.specs.declared.row.CodedRow.{CodedRow}
use Rattle.core_events.specs.ShardView.{rows_where}

-- A number where a test passes, and else 0.
abbrev pub number_where : Bool → ℕ → ℕ
number_where true n = n
number_where false n = 0

sum-of-three : (a b c : ℕ) → a + (b + c) ≡ (a + b) + c
sum-of-three a b c = omega arith

none-first : (n : ℕ) → 0 + n ≡ n + 0
none-first n = omega arith

-- A sum that begins at n and m is n and the sum that begins at m.
sum-from : (f : CodedRow → ℕ) (n m : ℕ) (xs : List CodedRow)
    → fold (λ a x. a + f x) (n + m) xs ≡ n + fold (λ a x. a + f x) m xs
sum-from f n m [] = refl
sum-from f n m (x ∷ xs) =
    ap (λ (z : ℕ). fold (λ a y. a + f y) z xs) (sym (sum-of-three n m (f x))) ∙ sum-from f n (m + f x) xs

pub count-cons : (c : CodedRow → Bool) (x : CodedRow) (xs : List CodedRow) → count_by c (x ∷ xs) ≡ cond (c x) 1 0 + count_by c xs
count-cons c x xs =
    ap (λ (z : ℕ). fold (λ a y. a + cond (c y) 1 0) z xs) (none-first (cond (c x) 1 0))
    ∙ sum-from (λ y. cond (c y) 1 0) (cond (c x) 1 0) 0 xs

pub count-append : (c : CodedRow → Bool) (xs ys : List CodedRow) → count_by c (xs ++ ys) ≡ count_by c xs + count_by c ys
count-append c [] ys = omega arith
count-append c (x ∷ xs) ys =
    count-cons c x (xs ++ ys)
    ∙ ap (λ (n : ℕ). cond (c x) 1 0 + n) (count-append c xs ys)
    ∙ sum-of-three (cond (c x) 1 0) (count_by c xs) (count_by c ys)
    ∙ ap (λ (n : ℕ). n + count_by c ys) (sym (count-cons c x xs))

pub count-where : (c : CodedRow → Bool) (b : Bool) (rows : List CodedRow) → count_by c (rows_where b rows) ≡ number_where b (count_by c rows)
count-where c true rows = refl
count-where c false rows = refl

pub count-run : (c : CodedRow → Bool) (xs : List CodedRow) (b : Bool) (rows : List CodedRow)
    → count_by c (xs ++ rows_where b rows) ≡ count_by c xs + number_where b (count_by c rows)
count-run c xs b rows = count-append c xs (rows_where b rows) ∙ ap (λ (n : ℕ). count_by c xs + n) (count-where c b rows)

pub where-sum : (b : Bool) (n m : ℕ) → number_where b (n + m) ≡ number_where b n + number_where b m
where-sum true n m = refl
where-sum false n m = omega arith

pub where-zero : (b : Bool) → number_where b 0 ≡ 0
where-zero true = refl
where-zero false = refl

-- One number is below another, is it, or is above it.
pub in-order : (a b : ℕ) → (a < b) ⊎ ((a ≡ b) ⊎ (b < a))
in-order a b = elim (eqb_tells a b) [
  | inl same ↦ inr (inl same.1)
  | inr other ↦ elim (leb_tells a b) [
    | inl low ↦ (let l = low.1 in let o = other.1 in inl (omega (arith, l, o)))
    | inr high ↦ inr (inr high.1)
  ]
]

-- Of the rows that a filter leaves.
filter-step : (b : Bool) (c : CodedRow → Bool) (x : CodedRow) (rest : List CodedRow) (n : ℕ) → count_by c rest ≡ n
    → count_by c (cond b (x ∷ rest) rest) ≡ cond (b && c x) 1 0 + n
filter-step true c x rest n e = count-cons c x rest ∙ ap (λ (m : ℕ). cond (c x) 1 0 + m) e
filter-step false c x rest n e = omega (arith, e)

pub count-filter : (c f : CodedRow → Bool) (xs : List CodedRow) → count_by c (filter f xs) ≡ count_by (λ r. f r && c r) xs
count-filter c f [] = refl
count-filter c f (x ∷ xs) =
    filter-step (f x) c x (filter f xs) (count_by (λ r. f r && c r) xs) (count-filter c f xs)
    ∙ sym (count-cons (λ r. f r && c r) x xs)
