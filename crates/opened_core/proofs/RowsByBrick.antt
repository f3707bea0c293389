-- Rows that are joined brick by brick, and what is found of one brick among them.
use Rattle.std.proofs.Common.{◌≡◌, ◌≢◌, ◌∙◌, ℕ, zero, suc, ◌+◌, ◌<◌, ◌≤◌, ◌==◌, ◌⊎◌, Bool, true, false, cond, List, [], ◌∷◌, ◌++◌, length, filter, append-nil, inl, inr, refl, sym, ap, arith, eq-eqb, ne_eqb}
use Rattle.std.proofs.lemmas.List.Elements.{filter-append}
use Rattle.std.specs.List.{AllByRecursion, flat_map, range_with_len, count_by}
use Rattle.cube_values.specs.declared.row.CodedRow.{CodedRow}
use Rattle.core_events.proofs.Counts.{count-cons, in-order}
use Rattle.core_events.specs.ShardView.{rows_where}
use Rattle.core_serial.proofs.Permutations.{alike-by-key}

pub all-of : {X : Type 0} (P Q : X → Type 0) → ((x : X) → P x → Q x) → (xs : List X) → AllByRecursion P xs → AllByRecursion Q xs
all-of P Q to [] all = tt
all-of P Q to (x ∷ xs) all = (to x all.0, all-of P Q to xs all.1)

all-append : {X : Type 0} (P : X → Type 0) (xs ys : List X) → AllByRecursion P xs → AllByRecursion P ys → AllByRecursion P (xs ++ ys)
all-append P [] ys one two = two
all-append P (x ∷ xs) ys one two = (one.0, all-append P xs ys one.1 two)

pub all-where : (P : CodedRow → Type 0) (b : Bool) (rows : List CodedRow) → AllByRecursion P rows → AllByRecursion P (rows_where b rows)
all-where P true rows all = all
all-where P false rows all = tt

-- All rows that are joined.
pub all-joined : (P : CodedRow → Type 0) (each : ℕ → List CodedRow) → ((b : ℕ) → AllByRecursion P (each b)) → (bricks : List ℕ)
    → AllByRecursion P (flat_map each bricks)
all-joined P each all [] = tt
all-joined P each all (b ∷ bricks) = all-append P (each b) (flat_map each bricks) (all b) (all-joined P each all bricks)

pub none-joined : (each : ℕ → List CodedRow) → ((b : ℕ) → each b ≡ []) → (bricks : List ℕ) → flat_map each bricks ≡ []
none-joined each none [] = refl
none-joined each none (b ∷ bricks) =
    ap (λ (rows : List CodedRow). rows ++ flat_map each bricks) (none b) ∙ none-joined each none bricks

module _ (key : CodedRow → ℕ) where
  abbrev at_key : ℕ → List CodedRow → List CodedRow
  at_key k rows = filter (λ row. key row == k) rows

  pub all-at : (k : ℕ) (rows : List CodedRow) → AllByRecursion (λ row. key row ≡ k) rows → at_key k rows ≡ rows
  all-at k [] all = refl
  all-at k (row ∷ rows) all =
      ap (λ (t : Bool). cond t (row ∷ at_key k rows) (at_key k rows)) (eq-eqb (key row) k all.0)
      ∙ ap (λ (l : List CodedRow). row ∷ l) (all-at k rows all.1)

  pub none-at : (k : ℕ) (rows : List CodedRow) → AllByRecursion (λ row. key row ≢ k) rows → at_key k rows ≡ []
  none-at k [] all = refl
  none-at k (row ∷ rows) all =
      ap (λ (t : Bool). cond t (row ∷ at_key k rows) (at_key k rows)) (ne_eqb (key row) k all.0) ∙ none-at k rows all.1

  module _ (each : ℕ → List CodedRow) (keyed : (b : ℕ) → AllByRecursion (λ row. key row ≡ b) (each b)) where
    abbrev joined_from : ℕ → ℕ → List CodedRow
    joined_from from n = flat_map each (range_with_len from n)

    other-at : (b k : ℕ) → b ≢ k → at_key k (each b) ≡ []
    other-at b k other =
        none-at k (each b) (all-of (λ (row : CodedRow). key row ≡ b) (λ (row : CodedRow). key row ≢ k) (λ row is same. other (sym is ∙ same)) (each b) (keyed b))

    before : (from n k : ℕ) → k < from → at_key k (joined_from from n) ≡ []
    before from zero k low = refl
    before from (suc n) k low =
        filter-append (λ row. key row == k) (each from) (joined_from (from + 1) n)
        ∙ ap (λ (l : List CodedRow). l ++ at_key k (joined_from (from + 1) n)) (other-at from k (λ same. absurd (omega (arith, low, same))))
        ∙ before (from + 1) n k (omega (arith, low))

    next-key : (from n k : ℕ) → (from < k) ⊎ ((from ≡ k) ⊎ (k < from)) → from ≤ k
        → (from < k → at_key k (joined_from (from + 1) n) ≡ each k)
        → at_key k (each from) ++ at_key k (joined_from (from + 1) n) ≡ each k
    next-key from n k (inl lt) low rest =
        ap (λ (l : List CodedRow). l ++ at_key k (joined_from (from + 1) n)) (other-at from k (λ same. absurd (omega (arith, lt, same)))) ∙ rest lt
    next-key from n k (inr (inl same)) low rest =
        ap (λ (b : ℕ). at_key k (each b) ++ at_key k (joined_from (from + 1) n)) same
        ∙ ap (λ (l : List CodedRow). l ++ at_key k (joined_from (from + 1) n)) (all-at k (each k) (keyed k))
        ∙ ap (λ (l : List CodedRow). each k ++ l) (before (from + 1) n k (omega (arith, same)))
        ∙ append-nil (each k)
    next-key from n k (inr (inr gt)) low rest = absurd (omega (arith, low, gt))

    -- Of one brick there are its rows, where those of bricks past the last are none.
    pub by-key : (from n k : ℕ) → from ≤ k → (from + n ≤ k → each k ≡ []) → at_key k (joined_from from n) ≡ each k
    by-key from zero k low out = sym (out (omega (arith, low)))
    by-key from (suc n) k low out =
        filter-append (λ row. key row == k) (each from) (joined_from (from + 1) n)
        ∙ next-key from n k (in-order from k) low (λ lt. by-key (from + 1) n k (omega (arith, lt)) (λ le. out (omega (arith, le))))

  -- Lists that have the same rows of each brick are as long.
  count-all : (rows : List CodedRow) → count_by (λ row. true) rows ≡ length rows
  count-all [] = refl
  count-all (row ∷ rows) =
      let step = count-cons (λ r. true) row rows in
      let rest = count-all rows in
      omega (arith, step, rest)

  pub as-long : (xs ys : List CodedRow) → ((k : ℕ) → at_key k xs ≡ at_key k ys) → length xs ≡ length ys
  as-long xs ys same =
      sym (count-all xs)
      ∙ alike-by-key key xs ys (λ k c. ap (λ (rows : List CodedRow). count_by c rows) (same k)) (λ row. true)
      ∙ count-all ys
