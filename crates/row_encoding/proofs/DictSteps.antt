-- One dictionary: the number that it gives holds for whatever names it ends with.
use Rattle.std.proofs.Common.{◌≡◌, ◌⊎◌, ℕ, ◌+◌, ◌<◌, ◌≤◌, Bool, true, false, cond, not, ◌&&◌, ◌||◌, List, [], ◌∷◌, ◌++◌, length, take, get_or, All, Contains, Option, Some, None, nat_lt, slice_get, IfSome, refl, sym, ap, ◌∙◌, subst, inl, inr, arith}
use Rattle.std.specs.List.{position, position_or_len, list_any}
use Rattle.std.specs.Option.{option_map_or}
use Rattle.std.specs.Str.{bytes_eq}
use Rattle.std.proofs.lemmas.Bool.{true≢false, cases_Bool, ltb-true, ltb-false, le-leb, false_from_ne_true}
use Rattle.std.proofs.lemmas.List.{take_all, take-append-le, take-take, get_or-take, get_or_push, length_push, length-take}
use Rattle.std.proofs.lemmas.List.Elements.{All-append, All-cons, All-nil, Contains-push_cases}
use Rattle.std.proofs.lemmas.List.Quantifiers.{position-Some}
use Rattle.std.proofs.lemmas.Option.{none-some, slice_get-get_or, get_or_from_slice_get, slice_get_within}
use Rattle.std.proofs.lemmas.Slice.Eq.{bytes_eq-Decides}
use Rattle.cube_language.specs.Cubes.{first_repeated}
use Rattle.cube_language.specs.declared.bad_row.TheConstants.{TEXT_BYTES}
use Rattle.cube_language.specs.declared.decl.DimDecl.{DimDecl}
use Rattle.cube_run.specs.LoadedRows.{has_no_place_for}
use Rattle.cube_schema.proofs.Repeated.{repeated-push}
use Rattle.names_dict.specs.declared.code.Code.{Code}
use Rattle.names_dict.specs.declared.code.Code.TheVariants.{Known, Added, Full}
use Rattle.names_dict.specs.Dictionaries.{Dictionary, code_of, with_code}
use Rattle.row_encoding.specs.FinalCodes.{code_number, IsFinalNumber}
use Rattle.row_encoding.specs.DictsAsEncoder.{MayBecome}

-- ---- tests

none_first : {X : Type 0} (p : X → Bool) (x : X) (xs : List X) (t : Bool) → p x ≡ t
    → length (x ∷ xs) ≤ cond (not t) (1 + position_or_len p xs) 0
    → (length xs ≤ position_or_len p xs → list_any p xs ≡ false) → list_any p (x ∷ xs) ≡ false
none_first p x xs true e h rest = absurd (omega arith)
none_first p x xs false e h rest = ap (λ t. t || list_any p xs) e ∙ rest (omega arith)

-- no place passes, so no element does
none_passes : {X : Type 0} (p : X → Bool) (xs : List X) → length xs ≤ position_or_len p xs → list_any p xs ≡ false
none_passes p [] h = refl
none_passes p (x ∷ xs) h = none_first p x xs (p x) refl h (none_passes p xs)

pub same_test : (a b : List ℕ) → bytes_eq a b ≡ bytes_eq b a
same_test a b = elim (cases_Bool (bytes_eq a b)) [
  | inl same ↦ same ∙ sym ((bytes_eq-Decides b a).1 (sym ((bytes_eq-Decides a b).0 same)))
  | inr other ↦ other ∙ sym (false_from_ne_true (bytes_eq b a) (λ t. true≢false (sym ((bytes_eq-Decides a b).1 (sym ((bytes_eq-Decides b a).0 t))) ∙ other)))
]

pub any_turned : (name : List ℕ) (names : List (List ℕ)) → list_any (λ other. bytes_eq other name) names ≡ list_any (bytes_eq name) names
any_turned name [] = refl
any_turned name (other ∷ names) = λ i. same_test other name i || any_turned name names i

-- ---- what a name gets

pub data Outcome (D : Dictionary) (name : List ℕ) : Code → Type 0 where
  known : (n : ℕ) → n < length D.names → slice_get D.names n ≡ Some name → Outcome D name (Known n)
  new : length D.names < D.cardinality → list_any (bytes_eq name) D.names ≡ false → Outcome D name (Added (length D.names))
  full : D.cardinality ≤ length D.names → list_any (bytes_eq name) D.names ≡ false → Outcome D name Full

by_room : (D : Dictionary) (name : List ℕ) (t : Bool) → nat_lt (length D.names) D.cardinality ≡ t → list_any (bytes_eq name) D.names ≡ false
    → Outcome D name (cond t (Added (length D.names)) Full)
by_room D name true e none = new (ltb-true (length D.names) D.cardinality e) none
by_room D name false e none = full (ltb-false (length D.names) D.cardinality e) none

none_long : {X : Type 0} (p : X → Bool) (xs : List X) (t : Bool) → nat_lt (position_or_len p xs) (length xs) ≡ t
    → cond t (Some (position_or_len p xs)) None ≡ None → length xs ≤ position_or_len p xs
none_long p xs true e h = absurd (none-some (position_or_len p xs) (sym h))
none_long p xs false e h = ltb-false (position_or_len p xs) (length xs) e

by_number : (D : Dictionary) (name : List ℕ) (o : Option ℕ) → position (bytes_eq name) D.names ≡ o
    → Outcome D name (option_map_or Known o (cond (nat_lt (length D.names) D.cardinality) (Added (length D.names)) Full))
by_number D name (Some n) e =
    let at = position-Some (bytes_eq name) D.names n [] e in
    known n at.0 (slice_get-get_or D.names n [] at.0 ∙ ap Some (sym ((bytes_eq-Decides name (get_or D.names n [])).0 at.1)))
by_number D name None e =
    by_room D name (nat_lt (length D.names) D.cardinality) refl (none_passes (bytes_eq name) D.names (none_long (bytes_eq name) D.names (nat_lt (position_or_len (bytes_eq name) D.names) (length D.names)) refl e))

pub outcome : (D : Dictionary) (name : List ℕ) (code : Code) → code ≡ code_of D name → Outcome D name code
outcome D name code e = subst (Outcome D name) (sym e) (by_number D name (position (bytes_eq name) D.names) refl)

-- ---- what it holds of the names in the end

at_front : (front names : List (List ℕ)) (n : ℕ) (name : List ℕ) → take (length front) names ≡ front → slice_get front n ≡ Some name
    → slice_get names n ≡ Some name
at_front front names n name h at =
    let below : n < length front = slice_get_within front n name at in
    let long : length (take (length front) names) ≡ length front = ap length h in
    let there : n < length names = let m = length-take (length front) names in omega (arith, long, m, below) in
    slice_get-get_or names n [] there
    ∙ ap Some (sym (get_or-take (length front) names n [] below) ∙ ap (λ (xs : List (List ℕ)). get_or xs n []) h ∙ get_or_from_slice_get front n name [] at)

pub final_number : (dim : DimDecl) (D : Dictionary) (name : List ℕ) (names : List (List ℕ)) (code : Code) → dim.cardinality ≡ D.cardinality
    → Outcome D name code → MayBecome (with_code D name code) names → IsFinalNumber dim names name (code_number code)
final_number dim D name names (Known n) c (known m below at) h = at_front D.names names n name h.first at
final_number dim D name names (Added n) c (new room absent) h =
    at_front (D.names ++ name ∷ []) names (length D.names) name h.first
    (slice_get-get_or (D.names ++ name ∷ []) (length D.names) [] (let l = length_push D.names name in omega (arith, l)) ∙ ap Some (get_or_push D.names name [] (length D.names) refl))
final_number dim D name names Full c (full most none) h =
    let same : names ≡ D.names = sym (take_all (length D.names) names (let f = h.few in omega (arith, f, most))) ∙ h.first in
    subst (λ (ns : List (List ℕ)). has_no_place_for dim ns name ≡ true) (sym same)
    ((λ i. le-leb dim.cardinality (length D.names) (omega (arith, c, most)) i && not ((any_turned name D.names ∙ none) i)))

pub inside : (D : Dictionary) (name : List ℕ) (code : Code) → length D.names ≤ D.cardinality → Outcome D name code → IfSome (code_number code) (λ n. n < D.cardinality)
inside D name (Known n) few (known m below at) = omega (arith, few, below)
inside D name (Added n) few (new room absent) = room
inside D name Full few (full most none) = tt

pub few_still : (D : Dictionary) (name : List ℕ) (code : Code) → length D.names ≤ D.cardinality → Outcome D name code
    → (length (with_code D name code).names ≤ D.cardinality) × ((with_code D name code).cardinality ≡ D.cardinality)
few_still D name (Known n) few (known m below at) = (few, refl)
few_still D name (Added n) few (new room absent) = ((let l = length_push D.names name in omega (arith, l, room)), refl)
few_still D name Full few (full most none) = (few, refl)

pub apart_still : (D : Dictionary) (name : List ℕ) (code : Code) → first_repeated D.names ≡ None → Outcome D name code
    → first_repeated (with_code D name code).names ≡ None
apart_still D name (Known n) apart (known m below at) = apart
apart_still D name (Added n) apart (new room absent) =
    repeated-push D.names name apart ∙ ap (λ b. cond b (Some name) None) absent
apart_still D name Full apart (full most none) = apart

pub short_still : (D : Dictionary) (name : List ℕ) (code : Code) → length name ≤ TEXT_BYTES
    → All (λ other. length other ≤ TEXT_BYTES) D.names → All (λ other. length other ≤ TEXT_BYTES) (with_code D name code).names
short_still D name (Known n) short all = all
short_still D name (Added n) short all =
    All-append (λ other. length other ≤ TEXT_BYTES) D.names (name ∷ []) all
    (All-cons (λ other. length other ≤ TEXT_BYTES) name [] short (All-nil (λ other. length other ≤ TEXT_BYTES)))
short_still D name Full short all = all

pub became_before : (D : Dictionary) (name : List ℕ) (code : Code) (names : List (List ℕ)) → MayBecome (with_code D name code) names → MayBecome D names
became_before D name (Known n) names h = h
became_before D name (Added n) names h = record {
  first =
      let l = length_push D.names name in
      sym (take-take (length D.names) (length (D.names ++ name ∷ [])) names (omega (arith, l)))
      ∙ ap (take (length D.names)) h.first ∙ take-append-le (length D.names) D.names (name ∷ []) (omega arith) ∙ take_all (length D.names) D.names (omega arith);
  few = h.few;
}
became_before D name Full names h = h

pub one_more_name : (D : Dictionary) (name : List ℕ) (code : Code) (text : List ℕ) → Contains (with_code D name code).names text → Contains D.names text ⊎ (text ≡ name)
one_more_name D name (Known n) text h = inl h
one_more_name D name (Added n) text h = elim (Contains-push_cases D.names name text h) [ inl old ↦ inl old | inr same ↦ inr (sym same) ]
one_more_name D name Full text h = inl h
