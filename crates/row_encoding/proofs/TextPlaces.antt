-- A text that is given to a dictionary has its place there, or that is full.
use Rattle.std.proofs.Common.{◌≡◌, ◌∙◌, ℕ, ◌+◌, ◌<◌, ◌≤◌, zero, suc, not, List, [], ◌∷◌, ◌++◌, length, get_or, Contains, Option, Some, None, Result, Ok, Err, IfOk, OnOk, nat_le, ℤ, sym, ap, subst, inl, inr, arith}
use Rattle.std.specs.Prelude.{take}
use Rattle.std.specs.List.{list_any}
use Rattle.std.specs.Str.{bytes_eq}
use Rattle.std.proofs.lemmas.Bool.{and_parts, leb-true}
use Rattle.std.proofs.lemmas.List.{take_more}
use Rattle.std.proofs.lemmas.List.Elements.{Contains-get_or, Contains-push_cases}
use Rattle.std.proofs.lemmas.Option.{slice_get_within, get_or_from_slice_get}
use Rattle.cube_values.specs.declared.operation.Condition.{Condition}
use Rattle.cube_values.specs.declared.value.Value.{Value}
use Rattle.cube_values.specs.declared.value.Value.TheVariants.{Text, Int}
use Rattle.cube_language.specs.declared.bad_row.TheConstants.{TEXT_BYTES}
use Rattle.cube_language.specs.declared.decl.DimDecl.{DimDecl}
use Rattle.condition_spans.specs.CodedConditions.{values_of_test}
use Rattle.condition_spans.specs.Codes.{texts_at}
use Rattle.row_encoding.specs.FinalCodes.{InTheEnd, IsFinalNumber, dim_at}
use Rattle.row_encoding.specs.CodedTexts.{HasPlace, HasPlaceIfShort, HavePlaces, HavePlacesAmong}

place_of : (dim : DimDecl) (names : List (List ℕ)) (text : List ℕ) (number : Option ℕ)
    → IsFinalNumber dim names text number → HasPlace dim names text
place_of dim names text (Some n) at =
    let there : n < length names = slice_get_within names n text at in
    inl (subst (Contains names) (get_or_from_slice_get names n text [] at) (Contains-get_or names n [] there))
place_of dim names text None lacks =
    let both = and_parts (nat_le dim.cardinality (length names)) (not (list_any (λ name. bytes_eq name text) names)) lacks in
    inr (leb-true dim.cardinality (length names) both.0)

pub has_place : {E : Type 0} (r : Result (Option ℕ) E) (M : List (List (List (List ℕ))) → Type 0) (place dim : ℕ)
    (e : DimDecl) (read text : List ℕ) → read ≡ text
    → IfOk r (λ number. InTheEnd M place (λ lists. IsFinalNumber e (texts_at lists dim) read number))
    → OnOk r (InTheEnd M place (λ lists. HasPlaceIfShort e (texts_at lists dim) text))
has_place (Ok number) M place dim e read text same h = λ names end short.
    subst (HasPlace e _) same (place_of e _ read number (h names end))
has_place (Err x) M place dim e read text same h = tt

-- ---- values

is_first : {X : Type 0} (x y : X) → Contains (x ∷ []) y → x ≡ y
is_first x y (zero, below, same) = same
is_first x y (suc k, below, same) = absurd (omega (arith, below))

text_same : (a b : List ℕ) → Text a ≡ Text b → a ≡ b
text_same a b e = cc

pub place_of_text : (dim : DimDecl) (names : List (List ℕ)) (text : List ℕ) → HasPlaceIfShort dim names text
    → HavePlacesAmong dim names (Text text ∷ [])
place_of_text dim names text h = λ other one short.
    let same : text ≡ other = text_same text other (is_first (Text text) (Text other) one) in
    let now = subst (λ (t : List ℕ). length t ≤ TEXT_BYTES) (sym same) short in
    subst (HasPlace dim names) same (h now)

pub no_text_to_place : (dim : DimDecl) (names : List (List ℕ)) (n : ℤ) → HavePlacesAmong dim names (Int n ∷ [])
no_text_to_place dim names n = λ other one short. let same = is_first (Int n) (Text other) one in absurd cc

pub none_to_place : (dim : DimDecl) (names : List (List ℕ)) → HavePlacesAmong dim names []
none_to_place dim names = λ text (k, below, same) short. absurd (omega (arith, below))

pub value_places : (dim : DimDecl) (names : List (List ℕ)) (values : List Value) (i : ℕ) (v : Value)
    → i < length values → v ≡ get_or values i v → HavePlacesAmong dim names (take i values)
    → HavePlacesAmong dim names (v ∷ []) → HavePlacesAmong dim names (take (i + 1) values)
value_places dim names values i v there at before here = λ text one short.
    let whole : take (i + 1) values ≡ take i values ++ v ∷ [] =
    take_more values i v there ∙ (λ j. take i values ++ sym at j ∷ [])
    in
    elim (Contains-push_cases (take i values) v (Text text) (subst (λ (vs : List Value). Contains vs (Text text)) whole one)) [
      | inl was ↦ before text was short
      | inr same ↦ here text (0, omega arith, same) short
    ]

-- ---- conditions

pub no_condition_to_place : (dims : List DimDecl) (lists : List (List (List ℕ))) → HavePlaces dims lists []
no_condition_to_place dims lists = λ dim text h. let below = h.one.1 in absurd (omega (arith, below))

pub condition_places : (dims : List DimDecl) (lists : List (List (List ℕ))) (conditions : List Condition) (i : ℕ)
    (c : Condition) (values : List Value) → i < length conditions → c ≡ get_or conditions i c
    → values ≡ values_of_test c.test → HavePlaces dims lists (take i conditions)
    → HavePlacesAmong (dim_at dims c.place) (texts_at lists c.place) values
    → HavePlaces dims lists (take (i + 1) conditions)
condition_places dims lists conditions i c values there at is before here = λ dim text h.
    let whole : take (i + 1) conditions ≡ take i conditions ++ c ∷ [] =
    take_more conditions i c there ∙ (λ j. take i conditions ++ sym at j ∷ [])
    in
    elim (Contains-push_cases (take i conditions) c h.condition (subst (λ (cs : List Condition). Contains cs h.condition) whole h.one)) [
      | inl was ↦ before dim text (record {
        condition = h.condition;
        one = was;
        here = h.here;
        compares = h.compares;
        short = h.short;
      })
      | inr same ↦
          subst (λ (k : ℕ). HasPlace (dim_at dims k) (texts_at lists k) text)
          (ap (λ (x : Condition). x.place) same ∙ h.here)
          (here text
          (subst (λ (vs : List Value). Contains vs (Text text)) (sym is)
          (subst (λ (x : Condition). Contains (values_of_test x.test) (Text text)) (sym same) h.compares))
          h.short)
    ]
