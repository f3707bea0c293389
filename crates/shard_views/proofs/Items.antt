-- Items by bits that are made of a test of their places.
use Rattle.std.proofs.Common.{◌≡◌, ℕ, zero, suc, ◌+◌, ◌<◌, ◌≤◌, Bool, true, false, List, [], ◌∷◌, ◌++◌, length, map, refl, ap, ◌∙◌, arith}
use Rattle.std.specs.List.{items_where_true, range_with_len}
use Rattle.cube_values.specs.declared.row.CodedRow.{CodedRow}
use Rattle.core_events.specs.ShardView.{rows_where}

pub items_append : {A : Type 0} (bits more : List Bool) (xs ys : List A) → length bits ≡ length xs → items_where_true (bits ++ more) (xs ++ ys) ≡ items_where_true bits xs ++ items_where_true more ys
items_append [] more [] ys e = refl
items_append [] more (x ∷ xs) ys e = absurd (omega arith)
items_append (b ∷ bits) more [] ys e = absurd (omega arith)
items_append (true ∷ bits) more (x ∷ xs) ys e = ap (λ l. x ∷ l) (items_append bits more xs ys (omega arith))
items_append (false ∷ bits) more (x ∷ xs) ys e = items_append bits more xs ys (omega arith)

-- places one after another
pub range_append : (a n k : ℕ) → range_with_len a (n + k) ≡ range_with_len a n ++ range_with_len (a + n) k
range_append a zero k = λ t. range_with_len (zero_end t) (zero_long t) where
  zero_end : a ≡ a + 0
  zero_end = omega arith

  zero_long : 0 + k ≡ k
  zero_long = omega arith
range_append a (suc n) k =
    let long : suc n + k ≡ suc (n + k) = omega arith in
    let end : a + 1 + n ≡ a + suc n = omega arith in
    ap (range_with_len a) long
    ∙ ap (λ l. a ∷ l) (range_append (a + 1) n k ∙ ap (λ b. range_with_len (a + 1) n ++ range_with_len b k) end)

-- tests that agree at the places
pub range_same : (f g : ℕ → Bool) (a n : ℕ) → ((i : ℕ) → a ≤ i → i < a + n → f i ≡ g i) → map f (range_with_len a n) ≡ map g (range_with_len a n)
range_same f g a zero h = refl
range_same f g a (suc n) h = λ t. h a (omega arith) (omega arith) t ∷ range_same f g (a + 1) n (λ i p q. h i (omega arith) (omega arith)) t

-- a test that answers one thing at all places
pub items_alike : (f : ℕ → Bool) (b : Bool) (a n : ℕ) (rows : List CodedRow) → length rows ≡ n → ((i : ℕ) → a ≤ i → i < a + n → f i ≡ b) → items_where_true (map f (range_with_len a n)) rows ≡ rows_where b rows
items_alike f true a zero [] e h = refl
items_alike f false a zero [] e h = refl
items_alike f b a zero (row ∷ rows) e h = absurd (omega arith)
items_alike f b a (suc n) [] e h = absurd (omega arith)
items_alike f true a (suc n) (row ∷ rows) e h =
    ap (λ t. items_where_true (t ∷ map f (range_with_len (a + 1) n)) (row ∷ rows)) (h a (omega arith) (omega arith))
    ∙ ap (λ l. row ∷ l) (items_alike f true (a + 1) n rows (omega arith) (λ i p q. h i (omega arith) (omega arith)))
items_alike f false a (suc n) (row ∷ rows) e h =
    ap (λ t. items_where_true (t ∷ map f (range_with_len (a + 1) n)) (row ∷ rows)) (h a (omega arith) (omega arith))
    ∙ items_alike f false (a + 1) n rows (omega arith) (λ i p q. h i (omega arith) (omega arith))
