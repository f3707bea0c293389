-- A row's values and its coordinates, place by place: what follows for the whole row.
use Rattle.std.proofs.Common.{◌≡◌, ℕ, ◌<◌, ◌≤◌, zero, suc, Bool, true, false, cond, not, List, [], ◌∷◌, length, get_or, All, Option, Some, None, nat_lt, nat_le, slice_get, true≢false, refl, sym, ap, ◌∙◌, subst, arith}
use Rattle.std.specs.Prelude.{ℤ, pos, unwrap_or}
use Rattle.std.specs.List.{list_any}
use Rattle.std.specs.Str.{bytes_eq}
use Rattle.std.proofs.lemmas.Bool.{ltb-false, lt-leb, and_left, and_right, not_from_true}
use Rattle.std.proofs.lemmas.List.{get_or_read}
use Rattle.std.proofs.lemmas.List.Elements.{All-head, All-tail}
use Rattle.std.proofs.lemmas.List.Folds.{list_any_at}
use Rattle.std.proofs.lemmas.Option.{none-some, slice_get_within, get_or_from_slice_get}
use Rattle.std.proofs.lemmas.Slice.Eq.{bytes_eq-Decides}
use Rattle.cube_values.specs.Shapes.{IsSoundSize}
use Rattle.cube_values.specs.declared.value.Value.{Value}
use Rattle.cube_values.specs.declared.value.Value.TheVariants.{Text, Int}
use Rattle.cube_language.specs.Cubes.{size_of, sizes_of}
use Rattle.cube_language.specs.RowFaults.{coord_reason, dim_reason, text_reason}
use Rattle.cube_language.specs.declared.bad_row.Reason.{Reason}
use Rattle.cube_language.specs.declared.bad_row.Reason.TheVariants.{NotNumber, NotText, TooLong}
use Rattle.cube_language.specs.declared.bad_row.TheConstants.{TEXT_BYTES}
use Rattle.cube_language.specs.declared.decl.Decl.{Decl}
use Rattle.cube_language.specs.declared.decl.DimDecl.{DimDecl}
use Rattle.cube_run.specs.LoadedRows.{has_no_place_for, text_without_place}
use Rattle.agg_fold.specs.Coded.{value_for, values_for}
use Rattle.brick_address.specs.Addresses.{AreCoords}
use Rattle.condition_spans.specs.Codes.{texts_at}
use Rattle.row_encoding.specs.FinalCodes.{dim_at}
use Rattle.row_encoding.specs.CodedValues.{FitDims, HaveText, IsFinalCoord, StandFor}
use Rattle.row_encoding.proofs.CubeSteps.{zip_length, zip_at, text_inside}

abbrev pub value_at : List Value → ℕ → Value
value_at row k = get_or row k (Int (pos 0))

-- the first n of these have this coordinate, whatever it names
abbrev pub AreFinal : List DimDecl → List (List (List ℕ)) → List Value → (ℕ → ℕ) → ℕ → Type 0
AreFinal dims lists row coord n =
    (k : ℕ) → k < n → IsFinalCoord (dim_at dims k) (texts_at lists k) (value_at row k) (Some (coord k))

one_less : (dims : List DimDecl) (lists : List (List (List ℕ))) (row : List Value) (coord : ℕ → ℕ) (n : ℕ) (dim : DimDecl) (names : List (List ℕ)) (v : Value)
    → AreFinal (dim ∷ dims) (names ∷ lists) (v ∷ row) coord (suc n) → AreFinal dims lists row (λ k. coord (suc k)) n
one_less dims lists row coord n dim names v h k below = h (suc k) (omega (arith, below))

-- ---- texts and their places

named_has_place : (dim : DimDecl) (names : List (List ℕ)) (text : List ℕ) (n : ℕ) → slice_get names n ≡ Some text → has_no_place_for dim names text ≡ false
named_has_place dim names text n at =
    let any : list_any (λ name. bytes_eq name text) names ≡ true =
    list_any_at (λ name. bytes_eq name text) names n [] (slice_get_within names n text at)
    ((bytes_eq-Decides (get_or names n []) text).1 (get_or_from_slice_get names n text [] at)) in
    and_right (nat_le dim.cardinality (length names)) (not (list_any (λ name. bytes_eq name text) names)) (not_from_true _ any)

no_names_have_place : (dim : DimDecl) (text : List ℕ) → 0 < dim.cardinality → has_no_place_for dim [] text ≡ true → ⊥
no_names_have_place dim text some h = true≢false (sym h ∙ and_left (nat_le dim.cardinality 0) true (lt-leb dim.cardinality 0 some))

pub all_have_places : (dims : List DimDecl) (lists : List (List (List ℕ))) (row : List Value) (coord : ℕ → ℕ) → AreFinal dims lists row coord (length row)
    → text_without_place dims lists row ≡ None
all_have_places [] lists row coord h = refl
all_have_places (dim ∷ dims) [] row coord h = refl
all_have_places (dim ∷ dims) (names ∷ lists) [] coord h = refl
all_have_places (dim ∷ dims) (names ∷ lists) (Text text ∷ row) coord h =
    ap (λ t. cond t (Some (record { column = dim.name; text = text })) (text_without_place dims lists row)) (named_has_place dim names text (coord 0) (h 0 (omega arith)))
    ∙ all_have_places dims lists row (λ k. coord (suc k)) (one_less dims lists row coord (length row) dim names (Text text) h)
all_have_places (dim ∷ dims) (names ∷ lists) (Int n ∷ row) coord h =
    all_have_places dims lists row (λ k. coord (suc k)) (one_less dims lists row coord (length row) dim names (Int n) h)

pub first_lacks : (n : ℕ) (dims : List DimDecl) (lists : List (List (List ℕ))) (row : List Value) (coord : ℕ → ℕ) (text : List ℕ) → n < length dims
    → AreFinal dims lists row coord n → HaveText row n text → 0 < (dim_at dims n).cardinality → has_no_place_for (dim_at dims n) (texts_at lists n) text ≡ true
    → text_without_place dims lists row ≡ Some (record { column = (dim_at dims n).name; text = text })
first_lacks n [] lists row coord text there h at some lacks = absurd (omega (arith, there))
first_lacks n (dim ∷ dims) lists [] coord text there h at some lacks = absurd (none-some (Text text) at)
first_lacks zero (dim ∷ dims) [] (v ∷ row) coord text there h at some lacks = absurd (no_names_have_place dim text some lacks)
first_lacks zero (dim ∷ dims) (names ∷ lists) (Text other ∷ row) coord text there h at some lacks =
    let same : other ≡ text = cc in
    subst (λ (t : List ℕ). text_without_place (dim ∷ dims) (names ∷ lists) (Text t ∷ row) ≡ Some (record { column = dim.name; text = text })) (sym same)
    (ap (λ t. cond t (Some (record { column = dim.name; text = text })) (text_without_place dims lists row)) lacks)
first_lacks zero (dim ∷ dims) (names ∷ lists) (Int m ∷ row) coord text there h at some lacks = absurd (cc)
first_lacks (suc n) (dim ∷ dims) [] (v ∷ row) coord text there h at some lacks = absurd (no_names_have_place (dim_at dims n) text some lacks)
first_lacks (suc n) (dim ∷ dims) (names ∷ lists) (Text other ∷ row) coord text there h at some lacks =
    ap (λ t. cond t (Some (record { column = dim.name; text = other })) (text_without_place dims lists row)) (named_has_place dim names other (coord 0) (h 0 (omega arith)))
    ∙ first_lacks n dims lists row (λ k. coord (suc k)) text (omega (arith, there)) (one_less dims lists row coord n dim names (Text other) h) at some lacks
first_lacks (suc n) (dim ∷ dims) (names ∷ lists) (Int m ∷ row) coord text there h at some lacks =
    first_lacks n dims lists row (λ k. coord (suc k)) text (omega (arith, there)) (one_less dims lists row coord n dim names (Int m) h) at some lacks

-- ---- what coordinates stand for

text_for : (names : List (List ℕ)) (text : List ℕ) (n : ℕ) → slice_get names n ≡ Some text → value_for names n ≡ Text text
text_for [] text n at = absurd (none-some text at)
text_for (name ∷ names) text n at = ap (λ (o : Option (List ℕ)). Text (unwrap_or o [])) at

pub stand_for : (lists : List (List (List ℕ))) (row : List Value) (coords : List ℕ) → length coords ≡ length row
    → ((k : ℕ) → k < length row → IsFinalCoord (dim_at [] k) (texts_at lists k) (value_at row k) (Some (get_or coords k 0)))
    → ((k : ℕ) (n : ℤ) → slice_get row k ≡ Some (Int n) → texts_at lists k ≡ []) → values_for lists coords ≡ row
stand_for lists [] [] long h numbers = refl
stand_for lists [] (coord ∷ coords) long h numbers = absurd (omega (arith, long))
stand_for lists (v ∷ row) [] long h numbers = absurd (omega (arith, long))
stand_for [] (Text text ∷ row) (coord ∷ coords) long h numbers = absurd (none-some text (h 0 (omega arith)))
stand_for [] (Int n ∷ row) (coord ∷ coords) long h numbers =
    λ i. Int (sym (h 0 (omega arith)) i) ∷ stand_for [] row coords (omega (arith, long)) (λ k below. h (suc k) (omega (arith, below))) (λ k m at. numbers (suc k) m at) i
stand_for (names ∷ lists) (Text text ∷ row) (coord ∷ coords) long h numbers =
    λ i. text_for names text coord (h 0 (omega arith)) i ∷ stand_for lists row coords (omega (arith, long)) (λ k below. h (suc k) (omega (arith, below))) (λ k m at. numbers (suc k) m at) i
stand_for (names ∷ lists) (Int n ∷ row) (coord ∷ coords) long h numbers =
    λ i. (ap (λ (ns : List (List ℕ)). value_for ns coord) (numbers 0 n refl) ∙ ap Int (sym (h 0 (omega arith)))) i
    ∷ stand_for lists row coords (omega (arith, long)) (λ k below. h (suc k) (omega (arith, below))) (λ k m at. numbers (suc k) m at) i

pub are_coords : (dims : List DimDecl) (coords : List ℕ) → length coords ≡ length dims → ((k : ℕ) → k < length dims → get_or coords k 0 < (dim_at dims k).cardinality)
    → AreCoords (sizes_of dims) coords
are_coords [] [] long h = tt
are_coords [] (coord ∷ coords) long h = absurd (omega (arith, long))
are_coords (dim ∷ dims) [] long h = absurd (omega (arith, long))
are_coords (dim ∷ dims) (coord ∷ coords) long h = (h 0 (omega arith), are_coords dims coords (omega (arith, long)) (λ k below. h (suc k) (omega (arith, below))))

pub positive : (dims : List DimDecl) (k : ℕ) → All IsSoundSize (sizes_of dims) → k < length dims → 0 < (dim_at dims k).cardinality
positive [] k sound below = absurd (omega (arith, below))
positive (dim ∷ dims) zero sound below = let s = All-head IsSoundSize (size_of dim) (sizes_of dims) sound in let r = s.range in let f = s.fits in omega (arith, r, f)
positive (dim ∷ dims) (suc k) sound below = positive dims k (All-tail IsSoundSize (size_of dim) (sizes_of dims) sound) (omega (arith, below))

-- an element that was read
pub dim_read : (d decl : Decl) (dims : List DimDecl) (k : ℕ) (e : DimDecl) → dims ≡ decl.dims → decl ≡ d → k < length d.dims → e ≡ get_or dims k e → e ≡ dim_at d.dims k
dim_read d decl dims k e same is below at =
    get_or_read d.dims k e below (at ∙ ap (λ (xs : List DimDecl). get_or xs k e) (same ∙ ap (λ (x : Decl). x.dims) is)) (dim_at [] 0)

-- ---- values that fit

if_number : (t : Bool) (x : Option Reason) → cond t (Some NotText) x ≡ None → (t ≡ false) × (x ≡ None)
if_number true x h = absurd (none-some NotText (sym h))
if_number false x h = (refl, h)

if_text : (t : Bool) (x : Option Reason) → cond t x (Some NotNumber) ≡ None → (t ≡ true) × (x ≡ None)
if_text true x h = (refl, h)
if_text false x h = absurd (none-some NotNumber (sym h))

pub number_fits : (dim : DimDecl) (n : ℤ) → dim_reason dim (Int n) ≡ None → (dim.text ≡ false) × (coord_reason dim.cardinality n ≡ None)
number_fits dim n h = if_number dim.text (coord_reason dim.cardinality n) h

pub text_fits : (dim : DimDecl) (text : List ℕ) → dim_reason dim (Text text) ≡ None → (dim.text ≡ true) × (text_reason text ≡ None)
text_fits dim text h = if_text dim.text (text_reason text) h

if_short : (n m : ℕ) (t : Bool) → nat_lt n m ≡ t → cond t (Some TooLong) None ≡ None → m ≤ n
if_short n m true e h = absurd (none-some TooLong (sym h))
if_short n m false e h = ltb-false n m e

pub short_fits : (text : List ℕ) → text_reason text ≡ None → length text ≤ TEXT_BYTES
short_fits text h = if_short TEXT_BYTES (length text) (nat_lt TEXT_BYTES (length text)) refl h

pub fits_at : (dims : List DimDecl) (row : List Value) (k : ℕ) → FitDims dims row → k < length dims → dim_reason (dim_at dims k) (value_at row k) ≡ None
fits_at dims row k fit below = zip_at (λ dim value. dim_reason dim value ≡ None) dims row k (dim_at [] 0) (Int (pos 0)) fit below

pub fit_long : (dims : List DimDecl) (row : List Value) → FitDims dims row → length dims ≡ length row
fit_long dims row fit = zip_length (λ dim value. dim_reason dim value ≡ None) dims row fit

other_dim : (dim other : DimDecl) (names : List (List ℕ)) (v : Value) (n : ℕ) → IsFinalCoord dim names v (Some n) → IsFinalCoord other names v (Some n)
other_dim dim other names (Text text) n h = h
other_dim dim other names (Int m) n h = h

text_inside_names : (dim : DimDecl) (v : Value) (names : List (List ℕ)) (n : ℕ) → dim_reason dim v ≡ None → dim.text ≡ true → IsFinalCoord dim names v (Some n) → n < length names
text_inside_names dim (Text text) names n fits is h = slice_get_within names n text h
text_inside_names dim (Int m) names n fits is h = absurd (true≢false (sym is ∙ (number_fits dim m fits).0))

pub row_stands : (d : Decl) (lists : List (List (List ℕ))) (row : List Value) (coords : List ℕ) → FitDims d.dims row → length coords ≡ length row
    → AreFinal d.dims lists row (λ k. get_or coords k 0) (length row) → StandFor d lists row coords
row_stands d lists row coords fit long h =
    let same = fit_long d.dims row fit in
    record {
      values = λ numbers. stand_for lists row coords long (λ k below. other_dim (dim_at d.dims k) (dim_at [] k) (texts_at lists k) (value_at row k) (get_or coords k 0) (h k below))
          (λ k n at.
          let below : k < length d.dims = let w = slice_get_within row k (Int n) at in omega (arith, w, same) in
          numbers k below (number_fits (dim_at d.dims k) n
          (ap (dim_reason (dim_at d.dims k)) (sym (get_or_from_slice_get row k (Int n) (Int (pos 0)) at)) ∙ fits_at d.dims row k fit below)).0);
      names = λ k is.
          let below : k < length d.dims = text_inside d.dims k is in
          text_inside_names (dim_at d.dims k) (value_at row k) (texts_at lists k) (get_or coords k 0) (fits_at d.dims row k fit below) is (h k (omega (arith, below, same)));
      places = all_have_places d.dims lists row (λ k. get_or coords k 0) h;
    }

pub coords_long : (dims : List DimDecl) (coords : List ℕ) → AreCoords (sizes_of dims) coords → length coords ≡ length dims
coords_long [] [] h = refl
coords_long [] (coord ∷ coords) h = absurd h
coords_long (dim ∷ dims) [] h = absurd h
coords_long (dim ∷ dims) (coord ∷ coords) h = ap suc (coords_long dims coords h.1)
