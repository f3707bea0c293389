-- The fields of a record that is a row, dimension by dimension.
use Rattle.std.proofs.Common.{◌≡◌, ℕ, ◌<◌, ◌≤◌, zero, suc, Bool, true, false, cond, List, [], ◌∷◌, length, drop, get_or, Option, Some, None, refl, sym, ap, ◌∙◌, subst, inl, inr, arith}
use Rattle.std.specs.Prelude.{ℤ, pos, negsuc, unsigned_abs, nat_lt, IsUtf8}
use Rattle.std.specs.Str.{is_utf8}
use Rattle.std.specs.Option.{option_map, option_map_or}
use Rattle.std.proofs.lemmas.Bool.{cases_Bool, ltb-true}
use Rattle.std.proofs.lemmas.Option.{none-some}
use Rattle.cube_values.specs.declared.value.Value.{Value}
use Rattle.cube_values.specs.declared.value.Value.TheVariants.{Text, Int}
use Rattle.cube_language.specs.RowFaults.{coord_reason, dim_reason, text_reason}
use Rattle.cube_language.specs.declared.bad_row.BadRow.TheVariants.{WrongCount, Column}
use Rattle.cube_language.specs.declared.bad_row.Reason.{Reason}
use Rattle.cube_language.specs.declared.bad_row.Reason.TheVariants.{NotNumber, OutOfRange, NotText}
use Rattle.cube_language.specs.declared.bad_row.TheConstants.{TEXT_BYTES}
use Rattle.cube_language.specs.declared.decl.Decl.{Decl}
use Rattle.cube_language.specs.declared.decl.DimDecl.{DimDecl}
use Rattle.csv_load.specs.Fields.{coord_field_reason, dim_field_reason, field_coord, field_number, spelled_number, spelled_reason, text_field_reason}
use Rattle.csv_load.specs.FileRecords.{RecordFields, columns_fault, dim_value, dim_values, dims_fault, field_coords, metrics_fault, record_fault}
use Rattle.csv_load.specs.Loads.{AreTexts, LoadState}
use Rattle.row_encoding.specs.FinalCodes.{dim_at}
use Rattle.row_encoding.specs.CodedValues.{FitDims, IsFinalCoord}
use Rattle.row_encoding.specs.CodedRecords.{ReadRow, value_read}
use Rattle.row_encoding.proofs.InsertRows.{none_of_both, none_mapped}
use Rattle.row_encoding.proofs.RowCoords.{short_fits, value_at}

-- ---- one field

if_utf8 : (t : Bool) (x : Option Reason) → cond t x (Some NotText) ≡ None → x ≡ None
if_utf8 true x h = h
if_utf8 false x h = absurd (none-some NotText (sym h))

fits_as_text : (dim : DimDecl) (field : List ℕ) → dim.text ≡ true → dim_field_reason dim field ≡ None → text_reason field ≡ None
fits_as_text dim field is h =
    if_utf8 (is_utf8 field) (text_reason field) (sym (ap (λ t. cond t (text_field_reason field) (coord_field_reason dim.cardinality field)) is) ∙ h)

pub text_short : (dim : DimDecl) (field : List ℕ) → dim.text ≡ true → dim_field_reason dim field ≡ None → length field ≤ TEXT_BYTES
text_short dim field is h = short_fits field (fits_as_text dim field is h)

pub text_value : (dim : DimDecl) (field : List ℕ) → dim.text ≡ true → dim_value dim field ≡ Text field
text_value dim field is = ap (λ t. cond t (Text field) (Int (field_number field))) is

pub number_value : (dim : DimDecl) (field : List ℕ) → dim.text ≡ false → dim_value dim field ≡ Int (field_number field)
number_value dim field is = ap (λ t. cond t (Text field) (Int (field_number field))) is

-- the number that a field spells, which is a coordinate
spelled_fits : (cardinality : ℕ) (o : Option ℤ) → spelled_reason cardinality o ≡ None → coord_reason cardinality (option_map_or (λ (n : ℤ). n) o (pos 0)) ≡ None
spelled_fits cardinality None h = absurd (none-some NotNumber (sym h))
spelled_fits cardinality (Some n) h = h

if_inside : (n cardinality : ℕ) (t : Bool) → nat_lt n cardinality ≡ t → cond t None (Some OutOfRange) ≡ None → n < cardinality
if_inside n cardinality true e h = ltb-true n cardinality e
if_inside n cardinality false e h = absurd (none-some OutOfRange (sym h))

coord_is : (cardinality : ℕ) (n : ℤ) → coord_reason cardinality n ≡ None → (n ≡ pos (unsigned_abs n)) × (unsigned_abs n < cardinality)
coord_is cardinality (pos n) h = (refl, if_inside n cardinality (nat_lt n cardinality) refl h)
coord_is cardinality (negsuc n) h = absurd (none-some OutOfRange (sym h))

fits_as_number : (dim : DimDecl) (field : List ℕ) → dim.text ≡ false → dim_field_reason dim field ≡ None → coord_reason dim.cardinality (field_number field) ≡ None
fits_as_number dim field is h =
    spelled_fits dim.cardinality (spelled_number field) (sym (ap (λ t. cond t (text_field_reason field) (coord_field_reason dim.cardinality field)) is) ∙ h)

pub number_is : (dim : DimDecl) (field : List ℕ) → dim.text ≡ false → dim_field_reason dim field ≡ None
    → (field_number field ≡ pos (field_coord dim field)) × (field_coord dim field < dim.cardinality)
number_is dim field is h =
    let c : field_coord dim field ≡ unsigned_abs (field_number field) = ap (λ t. cond t 0 (unsigned_abs (field_number field))) is in
    let both = coord_is dim.cardinality (field_number field) (fits_as_number dim field is h) in
    (both.0 ∙ ap pos (sym c), subst (λ (n : ℕ). n < dim.cardinality) (sym c) both.1)

value_fits : (dim : DimDecl) (field : List ℕ) → dim_field_reason dim field ≡ None → dim_reason dim (dim_value dim field) ≡ None
value_fits dim field h = elim (cases_Bool dim.text) [
  | inl is ↦ ap (dim_reason dim) (text_value dim field is) ∙ ap (λ t. cond t (text_reason field) (Some NotNumber)) is ∙ fits_as_text dim field is h
  | inr is ↦ ap (dim_reason dim) (number_value dim field is) ∙ ap (λ t. cond t (Some NotText) (coord_reason dim.cardinality (field_number field))) is ∙ fits_as_number dim field is h
]

-- ---- all fields

if_width : {X : Type 0} (t : Bool) (a : Option X) (x : X) → cond t a (Some x) ≡ None → a ≡ None
if_width true a x h = h
if_width false a x h = absurd (none-some x (sym h))

pub dims_fit : (d : Decl) (fields : RecordFields) → record_fault d fields ≡ None → dims_fault d.dims fields ≡ None
dims_fit d fields h = (none_of_both (dims_fault d.dims fields) (metrics_fault d.metrics (drop (length d.dims) fields)) (if_width _ (columns_fault d fields) (WrongCount (length fields)) h)).0

pub field_fits : (dims : List DimDecl) (fields : RecordFields) (k : ℕ) → dims_fault dims fields ≡ None → k < length dims → k < length fields
    → dim_field_reason (dim_at dims k) (get_or fields k []) ≡ None
field_fits [] fields k h below there = absurd (omega (arith, below))
field_fits (dim ∷ dims) [] k h below there = absurd (omega (arith, there))
field_fits (dim ∷ dims) (field ∷ fields) zero h below there =
    none_mapped (Column dim.name) (dim_field_reason dim field) (none_of_both (option_map (Column dim.name) (dim_field_reason dim field)) (dims_fault dims fields) h).0
field_fits (dim ∷ dims) (field ∷ fields) (suc k) h below there =
    field_fits dims fields k (none_of_both (option_map (Column dim.name) (dim_field_reason dim field)) (dims_fault dims fields) h).1 (omega (arith, below)) (omega (arith, there))

pub values_fit : (dims : List DimDecl) (fields : RecordFields) → dims_fault dims fields ≡ None → length dims ≤ length fields → FitDims dims (dim_values dims fields)
values_fit [] fields h long = tt
values_fit (dim ∷ dims) [] h long = absurd (omega (arith, long))
values_fit (dim ∷ dims) (field ∷ fields) h long =
    let both = none_of_both (option_map (Column dim.name) (dim_field_reason dim field)) (dims_fault dims fields) h in
    (value_fits dim field (none_mapped (Column dim.name) (dim_field_reason dim field) both.0), values_fit dims fields both.1 (omega (arith, long)))

pub values_long : (dims : List DimDecl) (fields : RecordFields) → length dims ≤ length fields → length (dim_values dims fields) ≡ length dims
values_long [] fields long = refl
values_long (dim ∷ dims) [] long = absurd (omega (arith, long))
values_long (dim ∷ dims) (field ∷ fields) long = ap suc (values_long dims fields (omega (arith, long)))

pub value_of_field : (dims : List DimDecl) (fields : RecordFields) (k : ℕ) → k < length dims → k < length fields
    → value_at (dim_values dims fields) k ≡ dim_value (dim_at dims k) (get_or fields k [])
value_of_field [] fields k below there = absurd (omega (arith, below))
value_of_field (dim ∷ dims) [] k below there = absurd (omega (arith, there))
value_of_field (dim ∷ dims) (field ∷ fields) zero below there = refl
value_of_field (dim ∷ dims) (field ∷ fields) (suc k) below there = value_of_field dims fields k (omega (arith, below)) (omega (arith, there))

pub coord_of_field : (dims : List DimDecl) (fields : RecordFields) (k : ℕ) → k < length dims → k < length fields
    → get_or (field_coords dims fields) k 0 ≡ field_coord (dim_at dims k) (get_or fields k [])
coord_of_field [] fields k below there = absurd (omega (arith, below))
coord_of_field (dim ∷ dims) [] k below there = absurd (omega (arith, there))
coord_of_field (dim ∷ dims) (field ∷ fields) zero below there = refl
coord_of_field (dim ∷ dims) (field ∷ fields) (suc k) below there = coord_of_field dims fields k (omega (arith, below)) (omega (arith, there))

pub utf8_field : (dims : List DimDecl) (fields : RecordFields) (k : ℕ) → AreTexts dims fields → k < length dims → k < length fields → (dim_at dims k).text ≡ true
    → IsUtf8 (get_or fields k [])
utf8_field [] fields k texts below there is = absurd (omega (arith, below))
utf8_field (dim ∷ dims) [] k texts below there is = absurd (omega (arith, there))
utf8_field (dim ∷ dims) (field ∷ fields) zero texts below there is = texts.0 is
utf8_field (dim ∷ dims) (field ∷ fields) (suc k) texts below there is = utf8_field dims fields k texts.1 (omega (arith, below)) (omega (arith, there)) is

-- ---- a record that was read and is a row

module _ (d : Decl) (load : LoadState) (read : ReadRow d load) where
  pub read_there : (k : ℕ) → k < length d.dims → k < length load.fields
  read_there k below = let w = read.row.width in omega (arith, w, below)

  pub read_fits : (k : ℕ) → k < length d.dims → dim_field_reason (dim_at d.dims k) (get_or load.fields k []) ≡ None
  read_fits k below = field_fits d.dims load.fields k (dims_fit d load.fields read.row.fits) below (read_there k below)

  pub read_utf8 : (k : ℕ) → k < length d.dims → (dim_at d.dims k).text ≡ true → IsUtf8 (get_or load.fields k [])
  read_utf8 k below is = utf8_field d.dims load.fields k read.row.texts below (read_there k below) is

  pub read_short : (k : ℕ) → k < length d.dims → (dim_at d.dims k).text ≡ true → length (get_or load.fields k []) ≤ TEXT_BYTES
  read_short k below is = text_short (dim_at d.dims k) (get_or load.fields k []) is (read_fits k below)

  read_coord : (k coord : ℕ) → k < length d.dims → coord ≡ get_or load.coords k 0 → coord ≡ field_coord (dim_at d.dims k) (get_or load.fields k [])
  read_coord k coord below at =
      at ∙ ap (λ (cs : List ℕ). get_or cs k 0) read.row.coordinates ∙ coord_of_field d.dims load.fields k below (read_there k below)

  pub read_final : (k coord : ℕ) (names : List (List ℕ)) → k < length d.dims → (dim_at d.dims k).text ≡ false → coord ≡ get_or load.coords k 0
      → IsFinalCoord (dim_at d.dims k) names (dim_value (dim_at d.dims k) (get_or load.fields k [])) (Some coord)
  read_final k coord names below is at =
      subst (λ (v : Value). IsFinalCoord (dim_at d.dims k) names v (Some coord)) (sym (number_value (dim_at d.dims k) (get_or load.fields k []) is))
      ((number_is (dim_at d.dims k) (get_or load.fields k []) is (read_fits k below)).0 ∙ ap pos (sym (read_coord k coord below at)))

  pub read_inside : (k coord : ℕ) → k < length d.dims → (dim_at d.dims k).text ≡ false → coord ≡ get_or load.coords k 0 → coord < (dim_at d.dims k).cardinality
  read_inside k coord below is at =
      subst (λ (n : ℕ). n < (dim_at d.dims k).cardinality) (sym (read_coord k coord below at))
      (number_is (dim_at d.dims k) (get_or load.fields k []) is (read_fits k below)).1

  pub read_value : (k : ℕ) → k < length d.dims → value_at (dim_values d.dims load.fields) k ≡ dim_value (dim_at d.dims k) (get_or load.fields k [])
  read_value k below = value_of_field d.dims load.fields k below (read_there k below)

  pub read_fit : FitDims d.dims (dim_values d.dims load.fields)
  read_fit = values_fit d.dims load.fields (dims_fit d load.fields read.row.fits) (let w = read.row.width in omega (arith, w))

  pub read_long : length (dim_values d.dims load.fields) ≡ length d.dims
  read_long = values_long d.dims load.fields (let w = read.row.width in omega (arith, w))

  pub read_below : (i : ℕ) → i < length d.dims → i < length (dim_values d.dims load.fields)
  read_below i below = let l = read_long in omega (arith, l, below)

  pub read_at : (k i : ℕ) → k ≡ i → i < length d.dims → value_read d load k ≡ value_at (dim_values d.dims load.fields) i
  read_at k i is below = sym (read_value k (omega (arith, is, below))) ∙ ap (value_at (dim_values d.dims load.fields)) is
