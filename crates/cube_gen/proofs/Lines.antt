-- The lines of one row more.
use Rattle.std.proofs.Common.{◌≡◌, ℕ, zero, suc, ◌+◌, List, [], ◌∷◌, ◌++◌, refl, ap, ◌∙◌, inl, inr, arith}
use Rattle.std.specs.Prelude.{filter}
use Rattle.std.specs.List.{flat_map, range_with_len}
use Rattle.std.proofs.lemmas.Bool.{cases_Bool}
use Rattle.std.proofs.lemmas.List.{append-nil}
use Rattle.std.proofs.lemmas.List.Concat.{flat_map-append}
use Rattle.std.proofs.lemmas.List.Elements.{filter-append}
use Rattle.cube_gen.specs.Generated.{high_bits, falls_to_session, line_for, number_at, part_so_far, row_text}

range-more : (a n : ℕ) → range_with_len a (suc n) ≡ range_with_len a n ++ (a + n) ∷ []
range-more a zero = let none : a ≡ a + 0 = omega arith in ap (λ k. k ∷ []) none
range-more a (suc n) =
    let at : (a + 1) + n ≡ a + suc n = omega arith in
    ap (λ (ks : List ℕ). a ∷ ks) (range-more (a + 1) n ∙ ap (λ k. range_with_len (a + 1) n ++ k ∷ []) at)

so_far-more : (n session k : ℕ) → part_so_far n session (k + 1) ≡ part_so_far n session k ++ flat_map (row_text n) (filter (falls_to_session session) (k ∷ []))
so_far-more n session k =
    let more : k + 1 ≡ suc k = omega arith in
    let last : 0 + k ≡ k = omega arith in
    ap (part_so_far n session) more
    ∙ ap (λ ks. flat_map (row_text n) (filter (falls_to_session session) ks)) (range-more 0 k ∙ ap (λ j. range_with_len 0 k ++ j ∷ []) last)
    ∙ ap (flat_map (row_text n)) (filter-append (falls_to_session session) (range_with_len 0 k) (k ∷ []))
    ∙ flat_map-append (row_text n) (filter (falls_to_session session) (range_with_len 0 k)) (filter (falls_to_session session) (k ∷ []))

pub lines_more : (n session k : ℕ) → part_so_far n session (k + 1) ≡ part_so_far n session k ++ line_for session k (high_bits (number_at n (suc k)))
lines_more n session k = elim (cases_Bool (falls_to_session session k)) [
  | inl is ↦ so_far-more n session k ∙ rw is (ap (λ xs. part_so_far n session k ++ xs) (append-nil (row_text n k)))
  | inr other ↦ so_far-more n session k ∙ rw other refl
]
