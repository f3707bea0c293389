-- The coordinates among values are those that one of the values is.
use Rattle.std.proofs.Common.{◌≡◌, ℕ, ◌<◌, ◌≤◌, Bool, true, false, List, [], ◌∷◌, Some, None, refl, sym, ap, ◌∙◌, inl, inr, arith}
use Rattle.std.specs.Prelude.{pos, negsuc, ◌||◌, ◌==◌, nat_lt, if◌then◌else◌}
use Rattle.std.specs.List.{cons_option, list_any}
use Rattle.std.proofs.lemmas.Bool.{cases_eq, eq-eqb, ne_eqb, ltb-false, false_from_ne_true}
use Rattle.cube_values.specs.declared.value.Value.{Value}
use Rattle.cube_values.specs.declared.value.Value.TheVariants.{Text, Int}
use Rattle.cube_values.specs.Values.{value_eq}
use Rattle.cube_values.specs.SameValues.{value_eq-Decides}
use Rattle.condition_spans.specs.Spans.{coords_among}

pub same_number : (n x : ℕ) → value_eq (Int (pos n)) (Int (pos x)) ≡ (n == x)
same_number n x = elim (cases_eq n x) [
  | inl same ↦ (value_eq-Decides (Int (pos n)) (Int (pos x))).1 (ap (λ (k : ℕ). Int (pos k)) same)
      ∙ sym (eq-eqb n x same)
  | inr apart ↦ false_from_ne_true (value_eq (Int (pos n)) (Int (pos x)))
      (λ t. let e : Int (pos n) ≡ Int (pos x) = (value_eq-Decides (Int (pos n)) (Int (pos x))).0 t in
      apart (cc))
      ∙ sym (ne_eqb n x apart)
]

listed : (n x : ℕ) (t : Bool) (coords : List ℕ) (any : Bool) → (t ≡ false → (n == x) ≡ false)
    → list_any (λ c. c == x) coords ≡ any
    → list_any (λ c. c == x) (cons_option (if t then Some n else None) coords) ≡ ((n == x) || any)
listed n x true coords any apart same = ap (λ (b : Bool). (n == x) || b) same
listed n x false coords any apart same = same ∙ ap (λ (b : Bool). b || any) (sym (apart refl))

pub among_has : (cardinality x : ℕ) (values : List Value) → x < cardinality
    → list_any (λ c. c == x) (coords_among cardinality values) ≡ list_any (λ w. value_eq w (Int (pos x))) values
among_has cardinality x [] below = refl
among_has cardinality x (Text text ∷ values) below = among_has cardinality x values below
among_has cardinality x (Int (negsuc n) ∷ values) below = among_has cardinality x values below
among_has cardinality x (Int (pos n) ∷ values) below =
    let rest = list_any (λ w. value_eq w (Int (pos x))) values in
    listed n x (nat_lt n cardinality) (coords_among cardinality values) rest
    (λ above. let most : cardinality ≤ n = ltb-false n cardinality above in ne_eqb n x (λ e. absurd (omega arith)))
    (among_has cardinality x values below)
    ∙ ap (λ (b : Bool). b || rest) (sym (same_number n x))
