-- What conditions by places ask of a dimension of numbers is what the conditions by names ask of it.
use Rattle.std.proofs.Common.{◌≡◌, ℕ, Bool, true, false, List, [], ◌∷◌, map, Option, Some, None, refl, sym, ap, subst, ◌∙◌, inl, inr}
use Rattle.std.specs.Prelude.{find, filter_map, fold, not, ◌||◌, ◌&&◌, ◌==◌, pos, if◌then◌else◌}
use Rattle.std.specs.List.{list_any, cons_option}
use Rattle.std.specs.Option.{option_map, option_map_or}
use Rattle.std.specs.Str.{bytes_eq}
use Rattle.std.proofs.lemmas.Bool.{cases_Bool, or_parts, eq-eqb, ne_eqb, false_from_ne_true, true≢false}
use Rattle.cube_values.specs.Regions.{passes}
use Rattle.cube_values.specs.Values.{value_eq}
use Rattle.cube_values.specs.declared.operation.Condition.{Condition}
use Rattle.cube_values.specs.declared.value.Value.{Value}
use Rattle.cube_values.specs.declared.value.Value.TheVariants.{Text, Int}
use Rattle.cube_language.specs.ColumnUses.{Purpose, Comparing, Ranging, dim_named, is_text, is_of_other_kind, is_against_dim, is_against_metric, is_wrong_use, cond_use}
use Rattle.cube_language.specs.Misfits.{cond_name, cond_test, all_pass}
use Rattle.cube_language.specs.ResolvedNames.{dim_place, resolved_cond}
use Rattle.cube_language.specs.declared.decl.Decl.{Decl}
use Rattle.cube_language.specs.declared.decl.DimDecl.{DimDecl}
use Rattle.cube_language.specs.declared.statement.Cond.{Cond}
use Rattle.cube_language.specs.declared.statement.Cond.TheVariants.{Equal, In, Between}
use Rattle.cube_schema.proofs.Bricks.{none_found}
use Rattle.condition_spans.specs.CodedConditions.{coded_values, coded_test, coded_conditions, codes_behind, values_of_test}
use Rattle.condition_spans.specs.Spans.{passes_at}
use Rattle.query_plan.proofs.Distinct.{IsAt, names_same, name_is}

pub or_nothing : (b : Bool) → (b || false) ≡ b
or_nothing true = refl
or_nothing false = refl

-- Numbers are read as themselves.
pub coded_numbers : (codes : List (Option ℕ)) (values : List Value) → list_any is_text values ≡ false
    → coded_values codes values ≡ values
coded_numbers codes [] none = refl
coded_numbers codes (Int n ∷ values) none = ap (λ (vs : List Value). Int n ∷ vs) (coded_numbers codes values none)
coded_numbers codes (Text text ∷ values) none = absurd cc

other_kinds : (dim : DimDecl) (values : List Value) → dim.text ≡ false
    → list_any (is_of_other_kind dim) values ≡ list_any is_text values
other_kinds dim [] number = refl
other_kinds dim (v ∷ values) number =
    λ i. (if number i then not (is_text v) else is_text v) || other_kinds dim values number i

no_texts : (dim : DimDecl) (values : List Value) → dim.text ≡ false → list_any (is_of_other_kind dim) values ≡ false
    → list_any is_text values ≡ false
no_texts dim values number fits = sym (other_kinds dim values number) ∙ fits

-- A condition that is not against the kind of its dimension of numbers asks the same of coordinates.
pub coded_alike : (dim : DimDecl) (c : Cond) (codes : List (Option ℕ)) (v : Value) → dim.text ≡ false
    → is_against_dim (cond_use c).purpose dim ≡ false
    → passes (coded_test codes (cond_test c)) v ≡ passes (cond_test c) v
coded_alike dim (Equal name wanted) codes v number fits =
    ap (list_any (λ w. value_eq w v)) (coded_numbers codes (wanted ∷ []) (no_texts dim (wanted ∷ []) number fits))
    ∙ or_nothing (value_eq wanted v)
coded_alike dim (In name wanted) codes v number fits =
    ap (list_any (λ w. value_eq w v)) (coded_numbers codes wanted (no_texts dim wanted number fits))
coded_alike dim (Between name first last) codes v number fits = refl

pub against_at : (purpose : Purpose) (dim : DimDecl) (o : Option DimDecl) → o ≡ Some dim
    → option_map_or (is_against_dim purpose) o (is_against_metric purpose) ≡ false → is_against_dim purpose dim ≡ false
against_at purpose dim o is fits =
    subst (λ (p : Option DimDecl). option_map_or (is_against_dim purpose) p (is_against_metric purpose) ≡ false) is fits

-- A condition that is not used against its kind is not against that of its dimension.
pub not_against : (d : Decl) (dim : DimDecl) (c : Cond) → dim_named d (cond_name c) ≡ Some dim
    → is_wrong_use d (cond_use c) ≡ false → is_against_dim (cond_use c).purpose dim ≡ false
not_against d dim (Equal name wanted) named fits =
    against_at (Comparing (wanted ∷ [])) dim (dim_named d name) named fits
not_against d dim (In name wanted) named fits = against_at (Comparing wanted) dim (dim_named d name) named fits
not_against d dim (Between name first last) named fits =
    against_at (Ranging first last) dim (dim_named d name) named fits

-- A condition at its place before others, if it has one.
abbrev pub placed : Option ℕ → Cond → List Condition → List Condition
placed place c rest = cons_option (option_map (λ p. record { place = p; test = cond_test c }) place) rest

-- The place of a dimension is not that of a condition with another name, and is that of one with its name.
pub other_place : (d : Decl) (k : ℕ) (dim : DimDecl) (c : Cond) (p : ℕ) → IsAt d k dim
    → dim_place d (cond_name c) ≡ Some p → bytes_eq (cond_name c) dim.name ≡ false → (p == k) ≡ false
other_place d k dim c p at is other =
    ne_eqb p k (λ e. true≢false (sym (ap (λ (n : List ℕ). bytes_eq n dim.name)
    (at.alone (cond_name c) (is ∙ ap Some e)) ∙ name_is dim.name) ∙ other))

pub own_place : (d : Decl) (k : ℕ) (dim : DimDecl) (c : Cond) (o : Option ℕ) → IsAt d k dim
    → dim_place d (cond_name c) ≡ o → bytes_eq (cond_name c) dim.name ≡ true → o ≡ Some k
own_place d k dim c o at is same =
    sym is ∙ ap (dim_place d) (names_same (cond_name c) dim.name same) ∙ at.place

one_asks : (d : Decl) (k : ℕ) (dim : DimDecl) (c : Cond) (codes : List (Option ℕ)) (x p : ℕ) → IsAt d k dim
    → dim.text ≡ false → is_wrong_use d (cond_use c) ≡ false → dim_place d (cond_name c) ≡ Some p
    → (not (p == k) || passes (coded_test codes (cond_test c)) (Int (pos x)))
    ≡ (not (bytes_eq (cond_name c) dim.name) || passes (cond_test c) (Int (pos x)))
one_asks d k dim c codes x p at number fits is = elim (cases_Bool (bytes_eq (cond_name c) dim.name)) [
  | inl same ↦
      let place : Some p ≡ Some k = own_place d k dim c (Some p) at is same in
      let here : (p == k) ≡ true = eq-eqb p k (cc) in
      let named = ap (dim_named d) (names_same (cond_name c) dim.name same) ∙ at.named in
      let alike = coded_alike dim c codes (Int (pos x)) number (not_against d dim c named fits) in
      (λ i. not (here i) || alike i) ∙ (λ i. not (sym same i) || passes (cond_test c) (Int (pos x)))
  | inr other ↦
      let here : (p == k) ≡ false = other_place d k dim c p at is other in
      (λ i. not (here i) || passes (coded_test codes (cond_test c)) (Int (pos x)))
      ∙ (λ i. not (sym other i) || passes (cond_test c) (Int (pos x)))
]

all_ask : (d : Decl) (k : ℕ) (dim : DimDecl) (c : Cond) (codes : List (Option ℕ)) (x : ℕ) (rest : List Condition)
    (all : Bool) (o : Option ℕ) → IsAt d k dim → dim.text ≡ false → is_wrong_use d (cond_use c) ≡ false
    → ((behind : List (Option ℕ)) → passes_at k (coded_conditions behind rest) x ≡ all)
    → dim_place d (cond_name c) ≡ o
    → passes_at k (coded_conditions codes (placed o c rest)) x
    ≡ ((not (bytes_eq (cond_name c) dim.name) || passes (cond_test c) (Int (pos x))) && all)
all_ask d k dim c codes x rest all None at number fits others is =
    let other : bytes_eq (cond_name c) dim.name ≡ false = false_from_ne_true (bytes_eq (cond_name c) dim.name)
    (λ same. let never : None ≡ Some k = own_place d k dim c None at is same in absurd cc) in
    others codes ∙ ap (λ (b : Bool). (not b || passes (cond_test c) (Int (pos x))) && all) (sym other)
all_ask d k dim c codes x rest all (Some p) at number fits others is =
    λ i. one_asks d k dim c codes x p at number fits is i
    && others (fold codes_behind codes (values_of_test (cond_test c))) i

-- What conditions by places ask of a dimension of numbers is what the conditions by names ask.
pub same_asked : (d : Decl) (k : ℕ) (dim : DimDecl) (conds : List Cond) (codes : List (Option ℕ)) (x : ℕ)
    → IsAt d k dim → dim.text ≡ false → find (is_wrong_use d) (map cond_use conds) ≡ None
    → passes_at k (coded_conditions codes (filter_map (resolved_cond d) conds)) x
    ≡ all_pass conds dim.name (Int (pos x))
same_asked d k dim [] codes x at number fits = refl
same_asked d k dim (c ∷ conds) codes x at number fits =
    let parts = none_found (is_wrong_use d) (cond_use c) (map cond_use conds) fits in
    all_ask d k dim c codes x (filter_map (resolved_cond d) conds) (all_pass conds dim.name (Int (pos x)))
    (dim_place d (cond_name c)) at number parts.0
    (λ behind. same_asked d k dim conds behind x at number parts.1) refl

none_asks : (d : Decl) (k : ℕ) (dim : DimDecl) (c : Cond) (codes : List (Option ℕ)) (x : ℕ) (rest : List Condition)
    (o : Option ℕ) → IsAt d k dim → bytes_eq (cond_name c) dim.name ≡ false
    → ((behind : List (Option ℕ)) → passes_at k (coded_conditions behind rest) x ≡ true)
    → dim_place d (cond_name c) ≡ o → passes_at k (coded_conditions codes (placed o c rest)) x ≡ true
none_asks d k dim c codes x rest None at other others is = others codes
none_asks d k dim c codes x rest (Some p) at other others is =
    let here : (p == k) ≡ false = other_place d k dim c p at is other in
    λ i. (not (here i) || passes (coded_test codes (cond_test c)) (Int (pos x)))
    && others (fold codes_behind codes (values_of_test (cond_test c))) i

-- Conditions on other dimensions ask nothing of a dimension.
pub nothing_asked : (d : Decl) (k : ℕ) (dim : DimDecl) (conds : List Cond) (codes : List (Option ℕ)) (x : ℕ)
    → IsAt d k dim → list_any (λ c. bytes_eq (cond_name c) dim.name) conds ≡ false
    → passes_at k (coded_conditions codes (filter_map (resolved_cond d) conds)) x ≡ true
nothing_asked d k dim [] codes x at none = refl
nothing_asked d k dim (c ∷ conds) codes x at none =
    let parts =
    or_parts (bytes_eq (cond_name c) dim.name) (list_any (λ o. bytes_eq (cond_name o) dim.name) conds) none in
    none_asks d k dim c codes x (filter_map (resolved_cond d) conds) (dim_place d (cond_name c)) at parts.0
    (λ behind. nothing_asked d k dim conds behind x at parts.1) refl
