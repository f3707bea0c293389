-- Columns and fields one after the other.
use Rattle.std.proofs.Common.{◌≡◌, ℕ, zero, suc, ◌+◌, ◌<◌, ◌≤◌, true, List, [], ◌∷◌, ◌++◌, length, get_or, drop, ℤ, Option, Some, None, refl, sym, ap, ◌∙◌, inl, inr, append_assoc, IsUtf8, arith}
use Rattle.std.specs.Str.{is_utf8}
use Rattle.std.proofs.Math.Seq.{drop-cons}
use Rattle.std.proofs.lemmas.Bool.{cases_Bool}
use Rattle.std.proofs.lemmas.List.{get_or-drop}
use Rattle.std.proofs.lemmas.Str.{IsUtf8-from_is_utf8}
use Rattle.csv.proofs.RecordFacts.{field-get}
use Rattle.csv.specs.Records.{field_at}
use Rattle.cube_language.specs.declared.bad_row.BadRow.TheVariants.{Column}
use Rattle.cube_language.specs.declared.bad_row.Reason.{Reason}
use Rattle.cube_language.specs.declared.decl.DimDecl.{DimDecl}
use Rattle.csv_load.specs.Fields.{dim_field_reason, field_number, metric_field_reason}
use Rattle.csv_load.specs.FileRecords.{RecordFields, dims_fault, field_coords, metrics_fault, field_numbers}
use Rattle.csv_load.specs.Loads.{AreTexts}

pub field_there : (fields : RecordFields) (i : ℕ) → i < length fields → field_at fields i ≡ None → ⊥
unfolding field_at
field_there [] i lt none = absurd (omega arith)
field_there (f ∷ fields) zero lt none = absurd cc
field_there (f ∷ fields) (suc i) lt none = field_there fields i (omega (arith, lt)) none

pub field_is : (fields : RecordFields) (i : ℕ) (x : List ℕ) → field_at fields i ≡ Some x → x ≡ get_or fields i []
field_is fields i x is = sym (field-get fields i x is)

pub field_back : (fields : RecordFields) (first i : ℕ) → get_or fields (first + i) [] ≡ get_or (drop first fields) i []
field_back fields first i = sym (get_or-drop first fields i [])

-- ---- what a function of columns and fields gives from a place on

first_of : {X : Type 0} (xs : List X) (i : ℕ) (d : X) → i < length xs → drop i xs ≡ get_or xs i d ∷ drop (i + 1) xs
first_of xs i d lt =
    let more : suc i ≡ i + 1 = omega arith in
    drop-cons xs i d lt ∙ ap (λ n. get_or xs i d ∷ drop n xs) more

-- the column at a place with its field, and those after it
pub cut : {X Y : Type 0} (f : List X → RecordFields → Y) (columns : List X) (fields : RecordFields) (i : ℕ) (d : X)
    → i < length columns → length columns ≤ length fields
    → f (drop i columns) (drop i fields)
    ≡ f (get_or columns i d ∷ drop (i + 1) columns) (get_or fields i [] ∷ drop (i + 1) fields)
cut f columns fields i d lt le = λ k. f (first_of columns i d lt k) (first_of fields i [] (omega (arith, lt, le)) k)

pub dim_fits : (dims : List DimDecl) (fields : RecordFields) (i : ℕ) (d : DimDecl) → i < length dims
    → length dims ≤ length fields → dim_field_reason (get_or dims i d) (get_or fields i []) ≡ None
    → dims_fault (drop i dims) (drop i fields) ≡ dims_fault (drop (i + 1) dims) (drop (i + 1) fields)
dim_fits dims fields i d lt le none = cut dims_fault dims fields i d lt le ∙ rw none refl

pub dim_fails : (dims : List DimDecl) (fields : RecordFields) (i : ℕ) (d : DimDecl) (reason : Reason)
    → i < length dims → length dims ≤ length fields
    → dim_field_reason (get_or dims i d) (get_or fields i []) ≡ Some reason
    → dims_fault (drop i dims) (drop i fields) ≡ Some (Column (get_or dims i d).name reason)
dim_fails dims fields i d reason lt le some = cut dims_fault dims fields i d lt le ∙ rw some refl

pub metric_fits : (names : List (List ℕ)) (fields : RecordFields) (i : ℕ) (d : List ℕ) → i < length names
    → length names ≤ length fields → metric_field_reason (get_or fields i []) ≡ None
    → metrics_fault (drop i names) (drop i fields) ≡ metrics_fault (drop (i + 1) names) (drop (i + 1) fields)
metric_fits names fields i d lt le none = cut metrics_fault names fields i d lt le ∙ rw none refl

pub metric_fails : (names : List (List ℕ)) (fields : RecordFields) (i : ℕ) (d : List ℕ) (reason : Reason)
    → i < length names → length names ≤ length fields
    → metric_field_reason (get_or fields i []) ≡ Some reason
    → metrics_fault (drop i names) (drop i fields) ≡ Some (Column (get_or names i d) reason)
metric_fails names fields i d reason lt le some = cut metrics_fault names fields i d lt le ∙ rw some refl

pub number_more : (fields : RecordFields) (i : ℕ) → i < length fields
    → field_numbers (drop i fields) ≡ field_number (get_or fields i []) ∷ field_numbers (drop (i + 1) fields)
number_more fields i lt = ap field_numbers (first_of fields i [] lt)

pub metrics_more : (fields : RecordFields) (i : ℕ) (number : ℤ) (so_far after all : List ℤ) → i < length fields
    → number ≡ field_number (get_or fields i []) → after ≡ so_far ++ number ∷ []
    → so_far ++ field_numbers (drop i fields) ≡ all
    → after ++ field_numbers (drop (i + 1) fields) ≡ all
metrics_more fields i number so_far after all lt is pushed so =
    let rest = field_numbers (drop (i + 1) fields) in
    ap (λ xs. xs ++ rest) pushed
    ∙ append_assoc so_far (number ∷ []) rest
    ∙ ap (λ n. so_far ++ n ∷ rest) is
    ∙ ap (λ xs. so_far ++ xs) (sym (number_more fields i lt))
    ∙ so

pub coords_count : (dims : List DimDecl) (fields : RecordFields) → length dims ≤ length fields
    → length (field_coords dims fields) ≡ length dims
coords_count [] fields le = refl
coords_count (dim ∷ dims) [] le = absurd (omega (arith, le))
coords_count (dim ∷ dims) (field ∷ fields) le = ap suc (coords_count dims fields (omega (arith, le)))

-- ---- texts

utf8_of : (dim : DimDecl) (field : List ℕ) → dim.text ≡ true → dim_field_reason dim field ≡ None → IsUtf8 field
utf8_of dim field text none = elim (cases_Bool (is_utf8 field)) [
  | inl utf8 ↦ IsUtf8-from_is_utf8 field utf8
  | inr other ↦ let no = rw (text, other) at none in absurd cc
]

pub texts_are : (dims : List DimDecl) (fields : RecordFields) → dims_fault dims fields ≡ None → AreTexts dims fields
texts_are [] fields none = tt
texts_are (dim ∷ dims) [] none = tt
texts_are (dim ∷ dims) (field ∷ fields) none = by_reason (dim_field_reason dim field) refl (texts_are dims fields)
  where
    by_reason : (reason : Option Reason) → dim_field_reason dim field ≡ reason
        → (dims_fault dims fields ≡ None → AreTexts dims fields) → AreTexts (dim ∷ dims) (field ∷ fields)
    by_reason None e more = (λ text. utf8_of dim field text e, more (rw e at none))
    by_reason (Some reason) e more = let no = rw e at none in absurd cc

pub text_at : (dims : List DimDecl) (fields : RecordFields) (i : ℕ) (d : DimDecl) → AreTexts dims fields
    → i < length dims → i < length fields → (get_or dims i d).text ≡ true → IsUtf8 (get_or fields i [])
text_at [] fields i d texts a b = absurd (omega (arith, a))
text_at (dim ∷ dims) [] i d texts a b = absurd (omega (arith, b))
text_at (dim ∷ dims) (field ∷ fields) zero d texts a b = texts.0
text_at (dim ∷ dims) (field ∷ fields) (suc i) d texts a b =
    text_at dims fields i d texts.1 (omega (arith, a)) (omega (arith, b))
