-- Lists that have each row as often are permutations, and so are lists that have each row as often key by key.
use Rattle.std.proofs.Common.{◌≡◌, ◌∙◌, ℕ, zero, suc, ◌+◌, ◌<◌, ◌≤◌, ◌==◌, Bool, true, false, cond, ◌&&◌, nat_lt, List, [], ◌∷◌, ◌++◌, filter, inl, inr, refl, sym, ap, subst, arith, eq-eqb, ne_eqb, lt-ltb, le-ltb}
use Rattle.std.specs.Cmp.{signed_Decides}
use Rattle.std.specs.Cmp.Lexicographic.{pointwise}
use Rattle.std.specs.List.{count_by}
use Rattle.std.specs.List.Sorted.{IsPermutation}
use Rattle.std.specs.Ordering.{int_eq}
use Rattle.std.specs.Str.{bytes_eq}
use Rattle.std.proofs.lemmas.Bool.{false≢true}
use Rattle.std.proofs.lemmas.List.{append-nil}
use Rattle.std.proofs.lemmas.List.Elements.{filter-append}
use Rattle.std.proofs.lemmas.List.Sorted.{IsPermutation-refl, IsPermutation-cons, IsPermutation-sym, IsPermutation-trans, IsPermutation-middle, sum_by-IsPermutation}
use Rattle.std.proofs.lemmas.Slice.Eq.{bytes_eq-Decides, slice_eq-Decides}
use Rattle.cube_values.specs.declared.row.CodedRow.{CodedRow}
use Rattle.core_events.proofs.Counts.{count-append, count-cons, count-filter, in-order}

abbrev same_row : CodedRow → CodedRow → Bool
same_row a b = bytes_eq a.coords b.coords && pointwise int_eq a.metrics b.metrics

both-true : (a b : Bool) → (a && b) ≡ true → (a ≡ true) × (b ≡ true)
both-true true b e = (refl, e)
both-true false b e = absurd (false≢true e)

same-is : (a b : CodedRow) → same_row a b ≡ true → a ≡ b
same-is a b e =
    let parts = both-true (bytes_eq a.coords b.coords) (pointwise int_eq a.metrics b.metrics) e in
    let coords = (bytes_eq-Decides a.coords b.coords).0 parts.0 in
    let metrics = (slice_eq-Decides signed_Decides a.metrics b.metrics (pointwise int_eq a.metrics b.metrics) refl).0 parts.1 in
    λ i. record { coords = coords i; metrics = metrics i }

same-self : (a : CodedRow) → same_row a a ≡ true
same-self a = λ i.
    (bytes_eq-Decides a.coords a.coords).1 refl i
    && (slice_eq-Decides signed_Decides a.metrics a.metrics (pointwise int_eq a.metrics a.metrics) refl).1 refl i

-- Each test counts as many rows in both lists.
abbrev pub CountAlike : List CodedRow → List CodedRow → Type 0
CountAlike xs ys = (c : CodedRow → Bool) → count_by c xs ≡ count_by c ys

-- A row that is there at all is at some place.
record Parted (x : CodedRow) (ys : List CodedRow) : Type 0 where
  before : List CodedRow
  behind : List CodedRow
  whole : ys ≡ before ++ x ∷ behind

parted-more : (x y : CodedRow) (ys : List CodedRow) → Parted x ys → Parted x (y ∷ ys)
parted-more x y ys p = record { before = y ∷ p.before; behind = p.behind; whole = ap (λ (l : List CodedRow). y ∷ l) p.whole }

some-parted : (x : CodedRow) (ys : List CodedRow) → 0 < count_by (same_row x) ys → Parted x ys
some-parted x [] h = absurd (omega (arith, h))
some-parted x (y ∷ ys) h = at (same_row x y) refl (λ some. some-parted x ys some)
  where
    at : (b : Bool) → same_row x y ≡ b → (0 < count_by (same_row x) ys → Parted x ys) → Parted x (y ∷ ys)
    at true e rest = record { before = []; behind = ys; whole = ap (λ (r : CodedRow). r ∷ ys) (sym (same-is x y e)) }
    at false e rest =
        let step = count-cons (same_row x) y ys ∙ ap (λ (b : Bool). cond b 1 0 + count_by (same_row x) ys) e in
        parted-more x y ys (rest (omega (arith, h, step)))

count-middle : (c : CodedRow → Bool) (us vs : List CodedRow) (x : CodedRow)
    → count_by c (us ++ x ∷ vs) ≡ cond (c x) 1 0 + count_by c (us ++ vs)
count-middle c us vs x =
    let a = count-append c us (x ∷ vs) in
    let b = count-cons c x vs in
    let d = count-append c us vs in
    omega (arith, a, b, d)

none-counted : (ys : List CodedRow) → 0 ≡ count_by (λ r. true) ys → ys ≡ []
none-counted [] e = refl
none-counted (y ∷ ys) e = let step = count-cons (λ r. true) y ys in absurd (omega (arith, e, step))

pub permuted-by-counts : (xs ys : List CodedRow) → CountAlike xs ys → IsPermutation xs ys
permuted-by-counts [] ys alike = subst (IsPermutation []) (sym (none-counted ys (alike (λ r. true)))) (IsPermutation-refl [])
permuted-by-counts (x ∷ xs) ys alike =
    let there : 0 < count_by (same_row x) ys =
    (let step = count-cons (same_row x) x xs ∙ ap (λ (b : Bool). cond b 1 0 + count_by (same_row x) xs) (same-self x) in
    let same = alike (same_row x) in
    omega (arith, step, same))
    in
    let p = some-parted x ys there in
    let rest = permuted-by-counts xs (p.before ++ p.behind) (λ c.
    let a = count-cons c x xs in
    let b = ap (count_by c) p.whole ∙ count-middle c p.before p.behind x in
    let same = alike c in
    omega (arith, a, b, same))
    in
    subst (IsPermutation (x ∷ xs)) (sym p.whole)
    (IsPermutation-trans (x ∷ xs) (x ∷ (p.before ++ p.behind)) (p.before ++ x ∷ p.behind)
    (IsPermutation-cons x xs (p.before ++ p.behind) rest)
    (IsPermutation-sym (p.before ++ x ∷ p.behind) (x ∷ (p.before ++ p.behind)) (IsPermutation-middle p.before x p.behind)))

-- Permutations count alike.
pub counts-permuted : (xs ys : List CodedRow) → IsPermutation xs ys → CountAlike xs ys
counts-permuted xs ys moved c = sym (sum_by-IsPermutation (λ r. cond (c r) 1 0) xs ys moved)

-- Each test counts at most as many rows in the one list as in the other.
abbrev pub CountPart : List CodedRow → List CodedRow → Type 0
CountPart ys xs = (c : CodedRow → Bool) → count_by c ys ≤ count_by c xs

-- What is left of a list without rows that it has.
pub record LeftWithout (xs ys : List CodedRow) : Type 0 where
  pub rest : List CodedRow
  pub made : IsPermutation xs (rest ++ ys)

pub left-without : (xs ys : List CodedRow) → CountPart ys xs → LeftWithout xs ys
left-without xs [] part = record { rest = xs; made = subst (IsPermutation xs) (sym (append-nil xs)) (IsPermutation-refl xs) }
left-without xs (y ∷ ys) part =
    let there : 0 < count_by (same_row y) xs =
    (let step = count-cons (same_row y) y ys ∙ ap (λ (b : Bool). cond b 1 0 + count_by (same_row y) ys) (same-self y) in
    let le = part (same_row y) in
    omega (arith, step, le))
    in
    let p = some-parted y xs there in
    let more = left-without (p.before ++ p.behind) ys (λ c.
    let a = count-cons c y ys in
    let b = ap (count_by c) p.whole ∙ count-middle c p.before p.behind y in
    let le = part c in
    omega (arith, a, b, le))
    in
    record {
      rest = more.rest;
      made = subst (λ (l : List CodedRow). IsPermutation l (more.rest ++ y ∷ ys)) (sym p.whole)
          (IsPermutation-trans (p.before ++ y ∷ p.behind) (y ∷ (p.before ++ p.behind)) (more.rest ++ y ∷ ys)
          (IsPermutation-middle p.before y p.behind)
          (IsPermutation-trans (y ∷ (p.before ++ p.behind)) (y ∷ (more.rest ++ ys)) (more.rest ++ y ∷ ys)
          (IsPermutation-cons y (p.before ++ p.behind) (more.rest ++ ys) more.made)
          (IsPermutation-sym (more.rest ++ y ∷ ys) (y ∷ (more.rest ++ ys)) (IsPermutation-middle more.rest y ys))));
    }

-- Rows by a key that is a number.
module _ (key : CodedRow → ℕ) where
  -- Key by key, each test counts as many rows in both lists.
  abbrev pub CountAlikeByKey : List CodedRow → List CodedRow → Type 0
  CountAlikeByKey xs ys = (k : ℕ) → CountAlike (filter (λ r. key r == k) xs) (filter (λ r. key r == k) ys)

  below-or-at : (n k : ℕ) (b : Bool) → cond (nat_lt k (suc n) && b) 1 0 ≡ cond (nat_lt k n && b) 1 0 + cond ((k == n) && b) 1 0
  below-or-at n k b = elim (in-order k n) [
    | inl lower ↦
        (λ i. cond (lt-ltb k (suc n) (omega (arith, lower)) i && b) 1 0)
        ∙ plus-none (cond b 1 0)
        ∙ (λ i. cond (sym (lt-ltb k n lower) i && b) 1 0 + cond (sym (ne_eqb k n (λ same. omega (arith, lower, same))) i && b) 1 0)
    | inr (inl same) ↦
        (λ i. cond (lt-ltb k (suc n) (omega (arith, same)) i && b) 1 0)
        ∙ none-plus (cond b 1 0)
        ∙ (λ i. cond (sym (le-ltb k n (omega (arith, same))) i && b) 1 0 + cond (sym (eq-eqb k n same) i && b) 1 0)
    | inr (inr higher) ↦
        (λ i. cond (le-ltb k (suc n) (omega (arith, higher)) i && b) 1 0)
        ∙ (λ i. cond (sym (le-ltb k n (omega (arith, higher))) i && b) 1 0 + cond (sym (ne_eqb k n (λ same. omega (arith, higher, same))) i && b) 1 0)
  ]
    where
      plus-none : (m : ℕ) → m ≡ m + 0
      plus-none m = omega arith

      none-plus : (m : ℕ) → m ≡ 0 + m
      none-plus m = omega arith

  count-below-step : (c : CodedRow → Bool) (n : ℕ) (xs : List CodedRow)
      → count_by (λ r. nat_lt (key r) (suc n) && c r) xs
      ≡ count_by (λ r. nat_lt (key r) n && c r) xs + count_by (λ r. (key r == n) && c r) xs
  count-below-step c n [] = refl
  count-below-step c n (x ∷ xs) =
      let rest = count-below-step c n xs in
      let head = below-or-at n (key x) (c x) in
      let p = count-cons (λ r. nat_lt (key r) (suc n) && c r) x xs in
      let q = count-cons (λ r. nat_lt (key r) n && c r) x xs in
      let s = count-cons (λ r. (key r == n) && c r) x xs in
      omega (arith, rest, head, p, q, s)

  count-below-none : (c : CodedRow → Bool) (xs : List CodedRow) → count_by (λ r. nat_lt (key r) zero && c r) xs ≡ 0
  count-below-none c [] = refl
  count-below-none c (x ∷ xs) =
      let rest = count-below-none c xs in
      let p = count-cons (λ r. nat_lt (key r) zero && c r) x xs
      ∙ (λ i. cond (le-ltb (key x) zero (omega arith) i && c x) 1 0 + count_by (λ r. nat_lt (key r) zero && c r) xs) in
      omega (arith, rest, p)

  below-alike : (xs ys : List CodedRow) → CountAlikeByKey xs ys → (n : ℕ) (c : CodedRow → Bool)
      → count_by (λ r. nat_lt (key r) n && c r) xs ≡ count_by (λ r. nat_lt (key r) n && c r) ys
  below-alike xs ys alike zero c = count-below-none c xs ∙ sym (count-below-none c ys)
  below-alike xs ys alike (suc n) c =
      let rest = below-alike xs ys alike n c in
      let here = sym (count-filter c (λ r. key r == n) xs) ∙ alike n c ∙ count-filter c (λ r. key r == n) ys in
      let p = count-below-step c n xs in
      let q = count-below-step c n ys in
      omega (arith, rest, here, p, q)

  -- A number above all keys.
  abbrev above_keys : List CodedRow → ℕ
  above_keys [] = 0
  above_keys (x ∷ xs) = key x + 1 + above_keys xs

  all-below : (c : CodedRow → Bool) (n : ℕ) (xs : List CodedRow) → above_keys xs ≤ n → count_by (λ r. nat_lt (key r) n && c r) xs ≡ count_by c xs
  all-below c n [] le = refl
  all-below c n (x ∷ xs) le =
      let sum : key x + 1 + above_keys xs ≤ n = le in
      let rest = all-below c n xs (omega (arith, sum)) in
      let low : key x < n = omega (arith, sum) in
      let p = count-cons (λ r. nat_lt (key r) n && c r) x xs
      ∙ (λ i. cond (lt-ltb (key x) n low i && c x) 1 0 + count_by (λ r. nat_lt (key r) n && c r) xs) in
      let q = count-cons c x xs in
      omega (arith, rest, p, q)

  pub alike-by-key : (xs ys : List CodedRow) → CountAlikeByKey xs ys → CountAlike xs ys
  alike-by-key xs ys alike c =
      let n = above_keys xs + above_keys ys in
      sym (all-below c n xs (omega arith)) ∙ below-alike xs ys alike n c ∙ all-below c n ys (omega arith)

  -- Key by key, each test counts at most as many.
  abbrev pub CountPartByKey : List CodedRow → List CodedRow → Type 0
  CountPartByKey ys xs = (k : ℕ) → CountPart (filter (λ r. key r == k) ys) (filter (λ r. key r == k) xs)

  below-part : (ys xs : List CodedRow) → CountPartByKey ys xs → (n : ℕ) (c : CodedRow → Bool)
      → count_by (λ r. nat_lt (key r) n && c r) ys ≤ count_by (λ r. nat_lt (key r) n && c r) xs
  below-part ys xs part zero c = let a = count-below-none c ys in let b = count-below-none c xs in omega (arith, a, b)
  below-part ys xs part (suc n) c =
      let rest = below-part ys xs part n c in
      let le = part n c in
      let a = count-filter c (λ r. key r == n) ys in
      let b = count-filter c (λ r. key r == n) xs in
      let p = count-below-step c n ys in
      let q = count-below-step c n xs in
      omega (arith, rest, le, a, b, p, q)

  pub part-by-key : (ys xs : List CodedRow) → CountPartByKey ys xs → CountPart ys xs
  part-by-key ys xs part c =
      let n = above_keys ys + above_keys xs in
      let a = all-below c n ys (omega arith) in
      let b = all-below c n xs (omega arith) in
      let le = below-part ys xs part n c in
      omega (arith, a, b, le)

-- What passes a test in two lists, one behind the other.
pub count-of-both : (c f : CodedRow → Bool) (xs ys : List CodedRow)
    → count_by c (filter f (xs ++ ys)) ≡ count_by c (filter f xs) + count_by c (filter f ys)
count-of-both c f xs ys = ap (count_by c) (filter-append f xs ys) ∙ count-append c (filter f xs) (filter f ys)
