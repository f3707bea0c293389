-- The first values of a row, coded: what holds between two of them.
use Rattle.std.proofs.Common.{◌≡◌, ℕ, ◌+◌, ◌<◌, List, [], ◌∷◌, ◌++◌, length, get_or, true, Some, None, refl, sym, ap, ◌∙◌, subst, inl, inr, arith}
use Rattle.std.specs.Prelude.{pos}
use Rattle.std.proofs.lemmas.Bool.{cases_eq}
use Rattle.std.proofs.lemmas.List.{get_or_append_left, get_or_push, length_push}
use Rattle.std.proofs.lemmas.Option.{get_or_from_slice_get, slice_get-get_or, slice_get_within}
use Rattle.cube_values.specs.declared.value.Value.{Value}
use Rattle.cube_values.specs.declared.value.Value.TheVariants.{Text, Int}
use Rattle.cube_language.specs.Cubes.{sizes_of}
use Rattle.cube_language.specs.declared.decl.Decl.{Decl}
use Rattle.brick_address.specs.Addresses.{AreCoords}
use Rattle.condition_spans.specs.Codes.{lists_at, texts_at}
use Rattle.row_encoding.specs.FinalCodes.{CarriesOn, Grow, HaveNumbers, InTheEnd, dim_at}
use Rattle.row_encoding.specs.CodedValues.{AreCodedAs, FitDims, HaveText, HasTextAt, IsFinalCoord, IsItsText, IsTextValue}
use Rattle.row_encoding.proofs.Growing.{grow_none, grow_more}
use Rattle.row_encoding.proofs.RowCoords.{are_coords, first_lacks, fit_long, row_stands, value_at}

pub record IsCodedFront {S : Type 0} (may_end : S → List (List (List (List ℕ))) → Type 0) (suits : S → ℕ → Decl → Type 0) (has_name : S → ℕ → ℕ → List ℕ → Type 0)
    (keeps : S → S → Type 0) (has_given : S → ℕ → ℕ → ℕ → Type 0)
    (place : ℕ) (d : Decl) (row : List Value) (old now : S) (coords : List ℕ) (n : ℕ) : Type 0 where
  pub long : length coords ≡ n
  pub below : (k : ℕ) → k < n → get_or coords k 0 < (dim_at d.dims k).cardinality
  pub final : (names : List (List (List (List ℕ)))) → may_end now names → (k : ℕ) → k < n
      → IsFinalCoord (dim_at d.dims k) (texts_at (lists_at names place) k) (value_at row k) (Some (get_or coords k 0))
  pub numbers : (k : ℕ) → k < n → (dim_at d.dims k).text ≡ true → has_given now place k (get_or coords k 0)
  pub grow : Grow may_end suits has_name keeps place d (HaveText row) old now

module _ {S : Type 0} (may_end : S → List (List (List (List ℕ))) → Type 0) (suits : S → ℕ → Decl → Type 0) (has_name : S → ℕ → ℕ → List ℕ → Type 0)
    (keeps : S → S → Type 0) (has_given : S → ℕ → ℕ → ℕ → Type 0) (on : CarriesOn keeps has_given)
    (place : ℕ) (d : Decl) (row : List Value) where
  pub no_value_coded : (now : S) → suits now place d → IsCodedFront may_end suits has_name keeps has_given place d row now now [] 0
  no_value_coded now suit = record {
    long = refl;
    below = λ k b. absurd (omega (arith, b));
    final = λ names h k b. absurd (omega (arith, b));
    numbers = λ k b t. absurd (omega (arith, b));
    grow = grow_none on suit;
  }

  its_text : (dim : ℕ) (v : Value) → dim < length row → v ≡ value_at row dim → (k : ℕ) (text : List ℕ) → IsItsText dim v k text → HaveText row k text
  its_text dim v there at k text is =
      subst (λ (j : ℕ). HaveText row j text) (sym is.0)
      (slice_get-get_or row dim (Int (pos 0)) there ∙ ap Some (sym at ∙ is.1))

  pub one_more_coded : (old mid new : S) (coords : List ℕ) (n dim : ℕ) (v : Value) (coord : ℕ) → IsCodedFront may_end suits has_name keeps has_given place d row old mid coords n
      → dim ≡ n → n < length row → v ≡ value_at row n
      → InTheEnd (may_end new) place (λ lists. IsFinalCoord (dim_at d.dims dim) (texts_at lists dim) v (Some coord)) → coord < (dim_at d.dims dim).cardinality
      → ((dim_at d.dims dim).text ≡ true → has_given new place dim coord)
      → Grow may_end suits has_name keeps place d (IsItsText dim v) mid new → IsCodedFront may_end suits has_name keeps has_given place d row old new (coords ++ coord ∷ []) (n + 1)
  one_more_coded old mid new coords n dim v coord front is there at final inside given grow = record {
    long = let l = length_push coords coord in omega (arith, l, front.long);
    below = λ k b. elim (cases_eq k n) [
      | inl same ↦ subst (λ (j : ℕ). get_or (coords ++ coord ∷ []) j 0 < (dim_at d.dims j).cardinality) (is ∙ sym same)
          (subst (λ (c : ℕ). c < (dim_at d.dims dim).cardinality) (sym (get_or_push coords coord 0 dim (front.long ∙ sym is))) inside)
      | inr other ↦ let small : k < n = let o : (k ≡ n → ⊥) = other in grind (arith, b, o) in
          subst (λ (c : ℕ). c < (dim_at d.dims k).cardinality) (sym (get_or_append_left coords (coord ∷ []) 0 k (omega (arith, small, front.long)))) (front.below k small)
    ];
    final = λ names h k b. elim (cases_eq k n) [
      | inl same ↦
          subst (λ (j : ℕ). IsFinalCoord (dim_at d.dims j) (texts_at (lists_at names place) j) (value_at row j) (Some (get_or (coords ++ coord ∷ []) j 0))) (is ∙ sym same)
          (subst (λ (w : Value). IsFinalCoord (dim_at d.dims dim) (texts_at (lists_at names place) dim) w (Some (get_or (coords ++ coord ∷ []) dim 0))) (at ∙ ap (value_at row) (sym is))
          (subst (λ (c : ℕ). IsFinalCoord (dim_at d.dims dim) (texts_at (lists_at names place) dim) v (Some c)) (sym (get_or_push coords coord 0 dim (front.long ∙ sym is))) (final names h)))
      | inr other ↦ let small : k < n = let o : (k ≡ n → ⊥) = other in grind (arith, b, o) in
          subst (λ (c : ℕ). IsFinalCoord (dim_at d.dims k) (texts_at (lists_at names place) k) (value_at row k) (Some c))
          (sym (get_or_append_left coords (coord ∷ []) 0 k (omega (arith, small, front.long)))) (front.final names (grow.later names h) k small)
    ];
    numbers = λ k b. elim (cases_eq k n) [
      | inl same ↦ subst (λ (j : ℕ). (dim_at d.dims j).text ≡ true → has_given new place j (get_or (coords ++ coord ∷ []) j 0)) (is ∙ sym same)
          (λ t. subst (λ (c : ℕ). has_given new place dim c) (sym (get_or_push coords coord 0 dim (front.long ∙ sym is))) (given t))
      | inr other ↦ let small : k < n = let o : (k ≡ n → ⊥) = other in grind (arith, b, o) in
          λ t. subst (λ (c : ℕ). has_given new place k c) (sym (get_or_append_left coords (coord ∷ []) 0 k (omega (arith, small, front.long))))
          (on.given mid new place k (get_or coords k 0) grow.keeps_else (front.numbers k small t))
    ];
    grow = grow_more on front.grow grow (its_text dim v (omega (arith, is, there)) (at ∙ ap (value_at row) (sym is)));
  }

  pub grown_so_far : (old mid new : S) (coords : List ℕ) (n dim : ℕ) (v : Value) → IsCodedFront may_end suits has_name keeps has_given place d row old mid coords n
      → dim ≡ n → n < length row → v ≡ value_at row n → Grow may_end suits has_name keeps place d (IsItsText dim v) mid new
      → Grow may_end suits has_name keeps place d (HaveText row) old new
  grown_so_far old mid new coords n dim v front is there at grow =
      grow_more on front.grow grow (its_text dim v (omega (arith, is, there)) (at ∙ ap (value_at row) (sym is)))

  pub all_coded : (old now : S) (coords : List ℕ) (n : ℕ) → IsCodedFront may_end suits has_name keeps has_given place d row old now coords n → n ≡ length row → FitDims d.dims row
      → InTheEnd (may_end now) place (λ lists. AreCodedAs d lists row coords None)
  all_coded old now coords n front all fit names h =
      row_stands d (lists_at names place) row coords fit (front.long ∙ all) (λ k b. front.final names h k (omega (arith, b, all)))

  pub all_inside : (old now : S) (coords : List ℕ) (n : ℕ) → IsCodedFront may_end suits has_name keeps has_given place d row old now coords n → n ≡ length row → FitDims d.dims row
      → AreCoords (sizes_of d.dims) coords
  all_inside old now coords n front all fit =
      let long = fit_long d.dims row fit in
      are_coords d.dims coords (front.long ∙ all ∙ sym long) (λ k b. front.below k (omega (arith, b, all, long)))

  pub all_numbers : (old now : S) (coords : List ℕ) (n : ℕ) → IsCodedFront may_end suits has_name keeps has_given place d row old now coords n
      → HaveNumbers (has_given now place) d.dims coords
  all_numbers old now coords n front dim number t is =
      let there = slice_get_within coords dim number is in
      let same : get_or coords dim 0 ≡ number = get_or_from_slice_get coords dim number 0 is in
      subst (λ (c : ℕ). has_given now place dim c) same (front.numbers dim (omega (arith, there, front.long)) t)

  text_is : (v : Value) → IsTextValue v → (text : List ℕ) × (v ≡ Text text)
  text_is (Text text) is = (text, refl)
  text_is (Int n) is = absurd is

  pub one_lacks : (old mid new : S) (coords : List ℕ) (n dim : ℕ) (v : Value) → IsCodedFront may_end suits has_name keeps has_given place d row old mid coords n
      → dim ≡ n → n < length row → v ≡ value_at row n → IsTextValue v → FitDims d.dims row → 0 < (dim_at d.dims n).cardinality
      → InTheEnd (may_end new) place (λ lists. IsFinalCoord (dim_at d.dims dim) (texts_at lists dim) v None)
      → Grow may_end suits has_name keeps place d (IsItsText dim v) mid new
      → InTheEnd (may_end new) place (λ lists. AreCodedAs d lists row coords (Some dim))
  one_lacks old mid new coords n dim v front is there at kind fit some final grow names h =
      let (text, is_text) = text_is v kind in
      let long = fit_long d.dims row fit in
      let here : HaveText row dim text = its_text dim v (omega (arith, is, there)) (at ∙ ap (value_at row) (sym is)) dim text (refl, is_text) in
      record {
        text = text;
        here = here;
        first = first_lacks dim d.dims (lists_at names place) row (λ k. get_or coords k 0) text (omega (arith, is, there, long))
            (λ k b. front.final names (grow.later names h) k (omega (arith, b, is))) here (subst (λ (j : ℕ). 0 < (dim_at d.dims j).cardinality) (sym is) some)
            (subst (λ (w : Value). IsFinalCoord (dim_at d.dims dim) (texts_at (lists_at names place) dim) w None) is_text (final names h));
      }

  pub has_text : (n dim : ℕ) (v : Value) → dim ≡ n → n < length row → v ≡ value_at row n → IsTextValue v → HasTextAt row dim
  has_text n dim v is there at kind =
      let (text, is_text) = text_is v kind in
      (text, its_text dim v (omega (arith, is, there)) (at ∙ ap (value_at row) (sym is)) dim text (refl, is_text))
