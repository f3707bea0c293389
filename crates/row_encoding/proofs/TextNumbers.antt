-- The number of a text that a dictionary answers, as its code among the names in the end.
use Rattle.std.proofs.Common.{◌≡◌, ℕ, ◌+◌, ◌<◌, ◌≤◌, zero, suc, false, cond, not, List, [], ◌∷◌, ◌++◌, length, map, get_or, Contains, Option, Some, None, Result, Ok, Err, IfOk, nat_le, slice_get, refl, sym, ap, ◌∙◌, subst, arith, append_assoc}
use Rattle.std.specs.Prelude.{filter_map, take}
use Rattle.std.specs.List.{IsDistinct, flat_map, list_any, position_from}
use Rattle.std.specs.Str.{bytes_eq}
use Rattle.std.proofs.lemmas.Bool.{and_parts, or_parts, not-true, false_from_ne_true}
use Rattle.std.proofs.lemmas.List.Elements.{All-from_recursion, All-get_or, All-weaker, Contains-get_or, filter_map-append}
use Rattle.std.proofs.lemmas.List.{flat_map_more, map-append, take_more}
use Rattle.std.proofs.lemmas.List.Folds.{list_any_none}
use Rattle.std.proofs.lemmas.Map.Keys.{IsDistinct-head, IsDistinct-tail}
use Rattle.std.proofs.lemmas.Option.{none-some, same_Some, slice_get_within, get_or_from_slice_get}
use Rattle.std.proofs.lemmas.Slice.Eq.{bytes_eq-Decides}
use Rattle.cube_values.specs.declared.operation.Condition.{Condition}
use Rattle.cube_values.specs.declared.value.Value.{Value}
use Rattle.cube_values.specs.declared.value.Value.TheVariants.{Text}
use Rattle.cube_language.specs.declared.bad_row.TheConstants.{TEXT_BYTES}
use Rattle.cube_language.specs.declared.decl.DimDecl.{DimDecl}
use Rattle.condition_spans.specs.CodedConditions.{values_of_test}
use Rattle.condition_spans.specs.Codes.{code_in, codes_among, codes_in, lists_at, text_of, texts_at}
use Rattle.row_encoding.specs.FinalCodes.{InTheEnd, IsFinalNumber}
use Rattle.row_encoding.specs.CodedTexts.{AreNames, ComparesWith, ShortTextAmong}
use Rattle.row_encoding.proofs.DictSteps.{any_turned, same_test}

place_found : (names : List (List ℕ)) (text : List ℕ) (n start : ℕ) → IsDistinct bytes_eq names → slice_get names n ≡ Some text
    → position_from (bytes_eq text) start names ≡ Some (start + n)
place_found [] text n start distinct at = absurd (none-some text at)
place_found (name ∷ names) text zero start distinct at =
    ap (λ t. cond t (Some start) (position_from (bytes_eq text) (start + 1) names)) ((bytes_eq-Decides text name).1 (sym (same_Some name text at)))
    ∙ ap Some (omega arith)
place_found (name ∷ names) text (suc n) start distinct at =
    let there : n < length names = slice_get_within names n text at in
    let apart : bytes_eq name (get_or names n []) ≡ false =
    All-get_or (λ (other : List ℕ). bytes_eq name other ≡ false) names n [] there (All-from_recursion (λ (other : List ℕ). bytes_eq name other ≡ false) names (IsDistinct-head bytes_eq name names distinct)) in
    ap (λ t. cond t (Some start) (position_from (bytes_eq text) (start + 1) names))
    (same_test text name ∙ ap (bytes_eq name) (sym (get_or_from_slice_get names n text [] at)) ∙ apart)
    ∙ place_found names text n (start + 1) (IsDistinct-tail bytes_eq name names distinct) at
    ∙ ap Some (omega arith)

place_lacking : (names : List (List ℕ)) (text : List ℕ) (start : ℕ) → list_any (bytes_eq text) names ≡ false → position_from (bytes_eq text) start names ≡ None
place_lacking [] text start none = refl
place_lacking (name ∷ names) text start none =
    let both = or_parts (bytes_eq text name) (list_any (bytes_eq text) names) none in
    ap (λ t. cond t (Some start) (position_from (bytes_eq text) (start + 1) names)) both.0 ∙ place_lacking names text (start + 1) both.1

pub final_code : (dim : DimDecl) (lists : List (List (List ℕ))) (k : ℕ) (text : List ℕ) (number : Option ℕ) → AreNames lists
    → IsFinalNumber dim (texts_at lists k) text number → number ≡ code_in (texts_at lists k) text
final_code dim lists k text (Some n) names at = sym (place_found (texts_at lists k) text n 0 (names.distinct k) at ∙ ap Some (omega arith))
final_code dim lists k text None names lacks =
    let both = and_parts (nat_le dim.cardinality (length (texts_at lists k))) (not (list_any (λ name. bytes_eq name text) (texts_at lists k))) lacks in
    sym (place_lacking (texts_at lists k) text 0 (sym (any_turned text (texts_at lists k)) ∙ not-true (list_any (λ name. bytes_eq name text) (texts_at lists k)) both.1))

-- a name is not too long, so a text that is too long is none
pub long_code : (lists : List (List (List ℕ))) (k : ℕ) (text : List ℕ) → AreNames lists → TEXT_BYTES < length text → None ≡ code_in (texts_at lists k) text
long_code lists k text names long =
    sym (place_lacking (texts_at lists k) text 0 (list_any_none (bytes_eq text) (texts_at lists k)
    (All-weaker (λ (name : List ℕ). length name ≤ TEXT_BYTES) (λ (name : List ℕ). bytes_eq text name ≡ false)
    (λ name short. false_from_ne_true (bytes_eq text name) (λ t. let same = ap length ((bytes_eq-Decides text name).0 t) in omega (arith, same, short, long)))
    (texts_at lists k) (names.short k))))

pub final_number_code : {E : Type 0} (r : Result (Option ℕ) E) (M : List (List (List (List ℕ))) → Type 0) (place dim : ℕ) (e : DimDecl) (read text : List ℕ) → read ≡ text
    → IfOk r (λ number. InTheEnd M place (λ lists. IsFinalNumber e (texts_at lists dim) read number))
    → IfOk r (λ number. InTheEnd M place (λ lists. AreNames lists → number ≡ code_in (texts_at lists dim) text))
final_number_code (Ok number) M place dim e read text same h = λ names end are.
    final_code e (lists_at names place) dim text number are
    (subst (λ (t : List ℕ). IsFinalNumber e (texts_at (lists_at names place) dim) t number) same (h names end))
final_number_code (Err x) M place dim e read text same h = tt

-- ---- one value more, and one condition more

codes_append : (texts : List (List ℕ)) (xs ys : List Value) → codes_among texts (xs ++ ys) ≡ codes_among texts xs ++ codes_among texts ys
codes_append texts xs ys =
    ap (map (code_in texts)) (filter_map-append text_of xs ys) ∙ map-append (code_in texts) (filter_map text_of xs) (filter_map text_of ys)

pub one_more_value : (texts : List (List ℕ)) (values : List Value) (i : ℕ) (v : Value) (old before after : List (Option ℕ)) → i < length values → v ≡ get_or values i v
    → before ≡ old ++ codes_among texts (take i values) → after ≡ before ++ codes_among texts (v ∷ []) → after ≡ old ++ codes_among texts (take (i + 1) values)
one_more_value texts values i v old before after there at so_far more =
    more ∙ ap (λ (b : List (Option ℕ)). b ++ codes_among texts (v ∷ [])) so_far
    ∙ append_assoc old (codes_among texts (take i values)) (codes_among texts (v ∷ []))
    ∙ ap (λ (b : List (Option ℕ)). old ++ b) (sym (codes_append texts (take i values) (v ∷ [])) ∙ ap (codes_among texts) (λ j. take i values ++ at j ∷ []) ∙ ap (codes_among texts) (sym (take_more values i v there)))

pub one_more_condition : (lists : List (List (List ℕ))) (conditions : List Condition) (i : ℕ) (c : Condition) (values : List Value) (before after : List (Option ℕ))
    → i < length conditions → c ≡ get_or conditions i c → values ≡ values_of_test c.test → before ≡ codes_in lists (take i conditions)
    → after ≡ before ++ codes_among (texts_at lists c.place) values → after ≡ codes_in lists (take (i + 1) conditions)
one_more_condition lists conditions i c values before after there at is so_far more =
    let each : Condition → List (Option ℕ) = λ x. codes_among (texts_at lists x.place) (values_of_test x.test) in
    more ∙ (λ j. so_far j ++ codes_among (texts_at lists c.place) (is j))
    ∙ flat_map_more each [] (take i conditions) c
    ∙ ap (flat_map each) (λ j. take i conditions ++ at j ∷ []) ∙ ap (flat_map each) (sym (take_more conditions i c there))

pub one_of : {X : Type 0} (xs : List X) (i : ℕ) (x y : X) → i < length xs → x ≡ get_or xs i x → Contains (x ∷ []) y → Contains xs y
one_of xs i x y there at (zero, below, same) = subst (Contains xs) (sym at ∙ same) (Contains-get_or xs i x there)
one_of xs i x y there at (suc k, below, same) = absurd (omega (arith, below))

pub among_values : (dim : ℕ) (values : List Value) (i : ℕ) (v : Value) → i < length values → v ≡ get_or values i v
    → (k : ℕ) (text : List ℕ) → ShortTextAmong dim (v ∷ []) k text → ShortTextAmong dim values k text
among_values dim values i v there at k text h =
    record { here = h.here; among = one_of values i v (Text text) there at h.among; short = h.short }

pub among_conditions : (conditions : List Condition) (i : ℕ) (c : Condition) (values : List Value) → i < length conditions → c ≡ get_or conditions i c → values ≡ values_of_test c.test
    → (k : ℕ) (text : List ℕ) → ShortTextAmong c.place values k text → ComparesWith conditions k text
among_conditions conditions i c values there at is k text h = record {
  condition = c;
  one = subst (Contains conditions) (sym at) (Contains-get_or conditions i c there);
  here = sym h.here;
  compares = subst (λ (vs : List Value). Contains vs (Text text)) is h.among;
  short = h.short;
}
