-- Bits of rows that are cleared, one after another, chunk after chunk and dimension after dimension.
use Rattle.std.proofs.Common.{◌≡◌, ℕ, ◌+◌, ◌<◌, ◌≤◌, Bool, true, false, ◌&&◌, IsTrue, List, [], ◌∷◌, length, filter, take, set, get_or, cond, zero, suc, refl, sym, ap, subst, ◌∙◌, arith, add-one, inl, inr}
use Rattle.std.specs.List.{items_where_true}
use Rattle.std.proofs.Math.Bool.{and_assoc, and-true}
use Rattle.std.proofs.lemmas.Bool.{cases_lt}
use Rattle.std.proofs.lemmas.List.{get_or-set_same, get_or-set_other, length-set}
use Rattle.cube_values.specs.declared.span.Part.{Part}
use Rattle.cube_values.specs.Spans.{part_has, parts_have}
use Rattle.brick_columns.specs.Rows.{BrickRow, row_at}
use Rattle.brick_store.specs.Cuts.{AreCleared, AreClearedFrom}
use Rattle.brick_store.specs.Whole.{coords_at_offsets}

and_false : (b : Bool) → (b && false) ≡ false
and_false true = refl
and_false false = refl

module _ (test : BrickRow → Bool) (rows : List BrickRow) where
  pub cleared_none : (at : ℕ) (bits : List Bool) → AreClearedFrom test rows at at bits bits
  cleared_none at bits = record {
    long = refl;
    inside = λ i p q. absurd (omega (arith, p, q));
    others = λ i p. refl;
  }

  -- nothing is cleared where all rows pass
  pub cleared_same : (bits : List Bool) → ((i : ℕ) → i < length rows → IsTrue (test (row_at rows i))) → AreCleared test rows bits bits
  cleared_same bits h = record {
    long = refl;
    inside = λ i p q. sym (ap (λ b. get_or bits i false && b) (h i q) ∙ and-true (get_or bits i false));
    others = λ i p. refl;
  }

  -- one row more
  pub cleared_more : (from i : ℕ) (old mid : List Bool) → from ≤ i → i < length mid → AreClearedFrom test rows from i old mid → AreClearedFrom test rows from (i + 1) old (cond (test (row_at rows i)) mid (set mid i false))
  cleared_more from i old mid p q h = by_test (test (row_at rows i)) refl where
    here : get_or mid i false ≡ get_or old i false
    here = h.others i (inr (omega arith))

    by_test : (b : Bool) → test (row_at rows i) ≡ b → AreClearedFrom test rows from (i + 1) old (cond b mid (set mid i false))
    by_test true e = record {
      long = h.long;
      inside = λ j l m. elim (cases_lt j i) [
        | inl a ↦ h.inside j l a
        | inr a ↦
            let same : i ≡ j = omega arith in
            subst (λ (k : ℕ). get_or mid k false ≡ (get_or old k false && test (row_at rows k))) same
            (here ∙ sym (ap (λ b. get_or old i false && b) e ∙ and-true (get_or old i false)))
      ];
      others = λ j l. h.others j (elim l [ inl a ↦ inl a | inr a ↦ inr (omega arith) ]);
    }
    by_test false e = record {
      long = length-set mid i false ∙ h.long;
      inside = λ j l m. elim (cases_lt j i) [
        | inl a ↦ get_or-set_other mid i j false false (λ s. omega (arith, a, s)) ∙ h.inside j l a
        | inr a ↦
            let same : i ≡ j = omega arith in
            subst (λ (k : ℕ). get_or (set mid i false) k false ≡ (get_or old k false && test (row_at rows k))) same
            (get_or-set_same mid i false false q ∙ sym (ap (λ b. get_or old i false && b) e ∙ and_false (get_or old i false)))
      ];
      others = λ j l. elim l [
        | inl a ↦ get_or-set_other mid i j false false (λ s. omega (arith, a, p, s)) ∙ h.others j (inl a)
        | inr a ↦ get_or-set_other mid i j false false (λ s. omega (arith, a, s)) ∙ h.others j (inr (omega arith))
      ];
    }

  -- a chunk more, behind bits that are not set
  pub cleared_chunk : (at from to : ℕ) (old mid new : List Bool) → at ≤ from → from ≤ to → ((i : ℕ) → at ≤ i → i < from → get_or mid i false ≡ false) → AreClearedFrom test rows 0 at old mid → AreClearedFrom test rows from to mid new → AreClearedFrom test rows 0 to old new
  cleared_chunk at from to old mid new p q gap h k = record {
    long = k.long ∙ h.long;
    inside = λ i l m. elim (cases_lt i from) [
      | inr a ↦ k.inside i a m ∙ ap (λ b. b && test (row_at rows i)) (h.others i (inr (omega arith)))
      | inl a ↦ elim (cases_lt i at) [
        | inl b ↦ k.others i (inl a) ∙ h.inside i (omega arith) b
        | inr b ↦
            let none = gap i b a in
            k.others i (inl a) ∙ none ∙ ap (λ b. b && test (row_at rows i)) (sym none ∙ h.others i (inr b))
      ]
    ];
    others = λ i l. elim l [
      | inl a ↦ absurd (omega (arith, a))
      | inr a ↦ k.others i (inr a) ∙ h.others i (inr (omega arith))
    ];
  }

  -- a test more
  pub cleared_both : (more both : BrickRow → Bool) (old mid new : List Bool) → ((i : ℕ) → i < length rows → both (row_at rows i) ≡ (test (row_at rows i) && more (row_at rows i))) → AreCleared test rows old mid → AreCleared more rows mid new → AreCleared both rows old new
  cleared_both more both old mid new e h k = record {
    long = k.long ∙ h.long;
    inside = λ i l m.
        k.inside i l m
        ∙ ap (λ b. b && more (row_at rows i)) (h.inside i l m)
        ∙ and_assoc (get_or old i false) (test (row_at rows i)) (more (row_at rows i))
        ∙ ap (λ b. get_or old i false && b) (sym (e i m));
    others = λ i l. k.others i l ∙ h.others i l;
  }

-- the rows that are left
pub left_items : {A : Type 0} (t : A → Bool) (d : A) (old new : List Bool) (xs : List A) → length old ≡ length xs → length new ≡ length xs → ((i : ℕ) → i < length xs → get_or new i false ≡ (get_or old i false && t (get_or xs i d))) → items_where_true new xs ≡ filter t (items_where_true old xs)
left_items t d [] [] xs p q h = refl
left_items t d [] (n ∷ new) [] p q h = absurd (omega arith)
left_items t d [] (n ∷ new) (x ∷ xs) p q h = absurd (omega arith)
left_items t d (o ∷ old) new [] p q h = absurd (omega arith)
left_items t d (o ∷ old) [] (x ∷ xs) p q h = absurd (omega arith)
left_items {A = A} t d (o ∷ old) (n ∷ new) (x ∷ xs) p q h =
    by_bits o n (t x) refl (h 0 (omega arith)) (left_items t d old new xs (omega arith) (omega arith) (λ i l. h (suc i) (omega arith))) where
      by_bits : (o n b : Bool) → t x ≡ b → n ≡ (o && t x) → items_where_true new xs ≡ filter t (items_where_true old xs) → items_where_true (n ∷ new) (x ∷ xs) ≡ filter t (items_where_true (o ∷ old) (x ∷ xs))
      by_bits false n b e g r = ap (λ m. items_where_true (m ∷ new) (x ∷ xs)) g ∙ r
      by_bits true n true e g r =
          ap (λ m. items_where_true (m ∷ new) (x ∷ xs)) (g ∙ e) ∙ ap (λ ys. x ∷ ys) r ∙ sym (ap (λ m. cond m (x ∷ filter t (items_where_true old xs)) (filter t (items_where_true old xs))) e)
      by_bits true n false e g r =
          ap (λ m. items_where_true (m ∷ new) (x ∷ xs)) (g ∙ e) ∙ r ∙ sym (ap (λ m. cond m (x ∷ filter t (items_where_true old xs)) (filter t (items_where_true old xs))) e)

-- parts of one dimension more
pub parts_more : (parts : List Part) (coords : List ℕ) (i : ℕ) (d : Part) → i < length parts → i < length coords → parts_have (take (i + 1) parts) (take (i + 1) coords) ≡ (parts_have (take i parts) (take i coords) && part_has (get_or parts i d) (get_or coords i 0))
parts_more parts coords i d p q = ap (λ n. parts_have (take n parts) (take n coords)) (add-one i) ∙ by_place parts coords i p q where
  by_place : (parts : List Part) (coords : List ℕ) (i : ℕ) → i < length parts → i < length coords → parts_have (take (suc i) parts) (take (suc i) coords) ≡ (parts_have (take i parts) (take i coords) && part_has (get_or parts i d) (get_or coords i 0))
  by_place [] coords i p q = absurd (omega arith)
  by_place (x ∷ parts) [] i p q = absurd (omega arith)
  by_place (x ∷ parts) (c ∷ coords) zero p q = and-true (part_has x c)
  by_place (x ∷ parts) (c ∷ coords) (suc i) p q =
      ap (λ b. part_has x c && b) (by_place parts coords i (omega arith) (omega arith))
      ∙ sym (and_assoc (part_has x c) (parts_have (take i parts) (take i coords)) (part_has (get_or parts i d) (get_or coords i 0)))

-- the first parts have the first coordinates of a row
abbrev pub first_parts_have : List Part → List ℕ → ℕ → BrickRow → Bool
first_parts_have parts starts n row = parts_have (take n parts) (take n (coords_at_offsets starts row.offsets))
