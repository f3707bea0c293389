-- Rows by their keys: what holds of the rows of each key holds of all.
use Rattle.std.proofs.Common.{◌≡◌, ℕ, ◌==◌, Bool, true, false, cond, List, [], ◌∷◌, filter, refl, sym, subst, eq-eqb}
use Rattle.std.specs.List.{AllByRecursion}
use Rattle.cube_values.specs.declared.row.CodedRow.{CodedRow}

without-first : (P : CodedRow → Type 0) (row : CodedRow) (rows : List CodedRow) (b : Bool)
    → AllByRecursion P (cond b (row ∷ rows) rows) → AllByRecursion P rows
without-first P row rows true all = all.1
without-first P row rows false all = all

all-false : (rows : List CodedRow) → AllByRecursion (λ (row : CodedRow). ⊥) rows → rows ≡ []
all-false [] all = refl
all-false (row ∷ rows) all = absurd all.0

module _ (key : CodedRow → ℕ) where
  abbrev rows_at : List CodedRow → ℕ → List CodedRow
  rows_at rows k = filter (λ row. key row == k) rows

  pub all-by-key : (P : CodedRow → Type 0) (rows : List CodedRow)
      → ((k : ℕ) → AllByRecursion P (filter (λ row. key row == k) rows)) → AllByRecursion P rows
  all-by-key P [] each = tt
  all-by-key P (row ∷ rows) each = (
    (subst (λ (b : Bool). AllByRecursion P (cond b (row ∷ rows_at rows (key row)) (rows_at rows (key row))))
        (eq-eqb (key row) (key row) refl) (each (key row))).0,
    all-by-key P rows (λ k. without-first P row (rows_at rows k) (key row == k) (each k)),
  )

  pub none-by-key : (rows : List CodedRow) → ((k : ℕ) → filter (λ row. key row == k) rows ≡ []) → rows ≡ []
  none-by-key rows none =
      all-false rows (all-by-key (λ row. ⊥) rows
      (λ k. subst (λ (l : List CodedRow). AllByRecursion (λ (row : CodedRow). ⊥) l) (sym (none k)) tt))
