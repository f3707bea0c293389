-- Runs of bits that are alike, and the rows beside them.
use Rattle.std.proofs.Common.{◌≡◌, ℕ, zero, suc, ◌+◌, ◌-◌, ◌<◌, ◌≤◌, Bool, true, false, cond, List, [], ◌∷◌, ◌++◌, length, take, drop, get_or, sym, ap, ◌∙◌, arith, append_assoc}
use Rattle.std.specs.List.{items_where_true}
use Rattle.std.proofs.lemmas.List.{append-nil, take_more, get_or-drop, length-drop, length-take-le}
use Rattle.brick_columns.specs.Rows.{BrickRow}
use Rattle.brick_store.specs.Cells.{columns_between}
use Rattle.brick_store.proofs.Folds.{set_more, set_short}

none : BrickRow
none = record { offsets = []; metrics = [] }

module _ (bits : List Bool) (rows : List BrickRow) where
  -- those of the first n whose bit is set
  abbrev pub chosen : ℕ → List BrickRow
  chosen n = items_where_true (take n bits) (take n rows)

  one_more : (i : ℕ) (b : Bool) → i < length bits → i < length rows → get_or bits i false ≡ b → chosen (i + 1) ≡ chosen i ++ cond b (get_or rows i none ∷ []) []
  one_more i b p q e = set_more bits rows i none p q ∙ ap (λ (t : Bool). chosen i ++ cond t (get_or rows i none ∷ []) []) e

  passed : (a n : ℕ) → a + n ≤ length bits → a + n ≤ length rows → ((i : ℕ) → a ≤ i → i < a + n → get_or bits i false ≡ false) → chosen (a + n) ≡ chosen a
  passed a zero p q h = ap chosen (omega arith)
  passed a (suc n) p q h =
      let e : a + suc n ≡ a + n + 1 = omega arith in
      ap chosen e
      ∙ one_more (a + n) false (omega arith) (omega arith) (h (a + n) (omega arith) (omega arith))
      ∙ append-nil (chosen (a + n))
      ∙ passed a n (omega arith) (omega arith) (λ i x y. h i x (omega arith))

  taken : (a n : ℕ) → a + n ≤ length bits → a + n ≤ length rows → ((i : ℕ) → a ≤ i → i < a + n → get_or bits i false ≡ true) → chosen (a + n) ≡ chosen a ++ take n (drop a rows)
  taken a zero p q h = ap chosen (omega arith) ∙ sym (append-nil (chosen a))
  taken a (suc n) p q h =
      let e : a + suc n ≡ a + n + 1 = omega arith in
      let k : suc n ≡ n + 1 = omega arith in
      let there : n < length (drop a rows) = omega (arith, length-drop a rows) in
      let item = get_or-drop a rows n none in
      ap chosen e
      ∙ one_more (a + n) true (omega arith) (omega arith) (h (a + n) (omega arith) (omega arith))
      ∙ ap (λ (l : List BrickRow). l ++ get_or rows (a + n) none ∷ []) (taken a n (omega arith) (omega arith) (λ i x y. h i x (omega arith)))
      ∙ append_assoc (chosen a) (take n (drop a rows)) (get_or rows (a + n) none ∷ [])
      ∙ ap (λ (r : BrickRow). chosen a ++ (take n (drop a rows) ++ r ∷ [])) (sym item)
      ∙ ap (λ (l : List BrickRow). chosen a ++ l) (sym (take_more (drop a rows) n none there) ∙ ap (λ j. take j (drop a rows)) (sym k))

  -- a gap, and then a run
  pub run_more : (at from to : ℕ) → at ≤ from → from ≤ to → to ≤ length bits → length bits ≡ length rows
      → ((i : ℕ) → at ≤ i → i < from → get_or bits i false ≡ false) → ((i : ℕ) → from ≤ i → i < to → get_or bits i false ≡ true)
      → chosen to ≡ chosen at ++ columns_between from to rows
  run_more at from to p q r long gap run =
      let g : at + (from - at) ≡ from = omega arith in
      let n : from + (to - from) ≡ to = omega arith in
      ap chosen (sym n)
      ∙ taken from (to - from) (omega arith) (omega arith) (λ i x y. run i x (omega arith))
      ∙ ap (λ (l : List BrickRow). l ++ take (to - from) (drop from rows)) (ap chosen (sym g) ∙ passed at (from - at) (omega arith) (omega arith) (λ i x y. gap i x (omega arith)))

  pub few_chosen : (n : ℕ) → n ≤ length rows → length (chosen n) ≤ n
  few_chosen n h = omega (arith, set_short (take n bits) (take n rows), length-take-le n rows h)
