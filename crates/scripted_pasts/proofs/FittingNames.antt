-- Rows that stand for values have their texts among the names, and the conditions of a region those of a statement.
use Rattle.std.proofs.Common.{◌≡◌, ◌∙◌, ◌⊎◌, inl, inr, ℕ, zero, suc, ◌+◌, ◌<◌, ◌≤◌, All, Bool, true, false, ◌||◌, List, [], ◌∷◌, ◌++◌, Contains, length, map, take, drop, get_or, Option, Some, None, slice_get, unwrap_or, refl, sym, ap, subst, arith, append-nil}
use Rattle.std.specs.List.{AllByRecursion, cons_option, enumerate_from, filter_map, flat_map, list_any, position_from}
use Rattle.std.specs.Prelude.{cond}
use Rattle.std.specs.Option.{option_and_then, option_map}
use Rattle.std.specs.Str.{bytes_eq}
use Rattle.std.proofs.lemmas.Bool.{both_ways, false≢true, false_from_ne_true}
use Rattle.std.proofs.lemmas.List.{take-append-drop}
use Rattle.std.proofs.lemmas.List.Elements.{All-from_get_or, All-from_recursion, All-nil, Contains-get_or}
use Rattle.std.proofs.lemmas.Option.{get_or_from_slice_get, none-some, same_Some, unwrap_or-slice_get}
use Rattle.std.proofs.lemmas.Slice.Eq.{bytes_eq-Decides}
use Rattle.cube_values.specs.Visible.{rows_put}
use Rattle.cube_values.specs.declared.operation.Condition.{Condition}
use Rattle.cube_values.specs.declared.operation.Operation.{Operation}
use Rattle.cube_values.specs.declared.operation.Operation.TheVariants.{Put, Drop}
use Rattle.cube_values.specs.declared.operation.Region.{Region}
use Rattle.cube_values.specs.declared.row.CodedRow.{CodedRow}
use Rattle.cube_values.specs.declared.row.StoredRow.{StoredRow}
use Rattle.cube_values.specs.declared.value.Value.{Value}
use Rattle.cube_values.specs.declared.value.Value.TheVariants.{Text, Int}
use Rattle.cube_language.specs.Cubes.{IsStorable, column_names, dim_names, first_repeated, first_some, repeated_after}
use Rattle.cube_language.specs.declared.cubes_fault.SchemaFault.{SchemaFault}
use Rattle.cube_language.specs.declared.cubes_fault.SchemaFault.TheVariants.{DuplicateName}
use Rattle.cube_language.specs.Misfits.{cond_name, cond_test}
use Rattle.cube_language.specs.ResolvedNames.{dim_place, resolved_cond, resolved_region}
use Rattle.cube_language.specs.declared.bad_row.TheConstants.{TEXT_BYTES}
use Rattle.cube_language.specs.declared.decl.Decl.{Decl}
use Rattle.cube_language.specs.declared.decl.DimDecl.{DimDecl}
use Rattle.cube_language.specs.declared.statement.Cond.{Cond}
use Rattle.cube_language.specs.declared.statement.Cond.TheVariants.{Equal, In, Between}
use Rattle.agg_fold.specs.Coded.{value_for, values_for}
use Rattle.condition_spans.specs.CodedConditions.{values_of_test}
use Rattle.condition_spans.specs.Codes.{lists_at, texts_at}
use Rattle.query_plan.specs.Ties.{StandForValues, stored_for}
use Rattle.row_encoding.specs.CodedTexts.{ComparesWith, HasPlace, HavePlaces}
use Rattle.row_encoding.specs.FinalCodes.{dim_at}
use Rattle.row_encoding.proofs.RowCoords.{coords_long}
use Rattle.cube_run.specs.FinalNames.{Compares, HasItsName, names_at}
use Rattle.one_session.specs.Changes.{AllStandForValues, ChangesFor, CodedChange, Come, Go}
use Rattle.session_desk.proofs.NamedApart.{first_is_new, later_are_new, or_left, or_right}

pub at_place : (names : List (List (List (List ℕ)))) (cube place : ℕ)
    → names_at names cube place ≡ texts_at (lists_at names cube) place
at_place names cube place = at (slice_get names cube)
  where
    at : (o : Option (List (List (List ℕ))))
        → unwrap_or (option_and_then (λ dims. slice_get dims place) o) [] ≡ texts_at (unwrap_or o []) place
    at None = refl
    at (Some lists) = refl

-- ---- rows

text_same : (a b : List ℕ) → Text a ≡ Text b → a ≡ b
text_same a b e = cc

value_there : (lists : List (List (List ℕ))) (coords : List ℕ) (place : ℕ) (v : Value)
    → slice_get (values_for lists coords) place ≡ Some v
    → (place < length coords) × (value_for (texts_at lists place) (get_or coords place 0) ≡ v)
value_there lists [] place v is = absurd (none-some v is)
value_there [] (coord ∷ coords) zero v is = (omega arith, same_Some (value_for [] coord) v is)
value_there [] (coord ∷ coords) (suc place) v is =
    let rest = value_there [] coords place v is in
    (let l = rest.0 in omega (arith, l), rest.1)
value_there (texts ∷ lists) (coord ∷ coords) zero v is = (omega arith, same_Some (value_for texts coord) v is)
value_there (texts ∷ lists) (coord ∷ coords) (suc place) v is =
    let rest = value_there lists coords place v is in
    (let l = rest.0 in omega (arith, l), rest.1)

is_among : (texts : List (List ℕ)) (coord : ℕ) (text : List ℕ) → coord < length texts
    → value_for texts coord ≡ Text text → Contains texts text
is_among [] coord text l is = absurd (omega (arith, l))
is_among (first ∷ texts) coord text l is =
    subst (Contains (first ∷ texts))
    (sym (unwrap_or-slice_get (first ∷ texts) coord [])
    ∙ text_same (unwrap_or (slice_get (first ∷ texts) coord) []) text is)
    (Contains-get_or (first ∷ texts) coord [] l)

no_number : (texts : List (List ℕ)) (coord : ℕ) (text : List ℕ) → texts ≡ [] → value_for texts coord ≡ Text text → ⊥
no_number [] coord text none is = cc
no_number (first ∷ texts) coord text none is = cc

-- The row that a coded one stands for has its text among the names.
row_named : (d : Decl) (lists : List (List (List ℕ))) (place : ℕ) (row : CodedRow) (text : List ℕ)
    → StandForValues d lists row.coords → slice_get (values_for lists row.coords) place ≡ Some (Text text)
    → Contains (texts_at lists place) text
row_named d lists place row text stands is =
    let found = value_there lists row.coords place (Text text) is in
    let long = coords_long d.dims row.coords stands.of_cube in
    let within : place < length d.dims = let l = found.0 in omega (arith, l, long) in
    let its = stands.each place (dim_at [] 0) within in
    at (get_or d.dims place (dim_at [] 0)).text refl found.1 its.text its.number
  where
    at : (b : Bool) → (get_or d.dims place (dim_at [] 0)).text ≡ b
        → value_for (texts_at lists place) (get_or row.coords place 0) ≡ Text text
        → ((get_or d.dims place (dim_at [] 0)).text ≡ true → get_or row.coords place 0 < length (texts_at lists place))
        → ((get_or d.dims place (dim_at [] 0)).text ≡ false → texts_at lists place ≡ [])
        → Contains (texts_at lists place) text
    at true has value below none = is_among (texts_at lists place) (get_or row.coords place 0) text (below has) value
    at false has value below none =
        absurd (no_number (texts_at lists place) (get_or row.coords place 0) text (none has) value)

-- What is put into a cube, at whichever place it stands, has its names.
rows_named : (e : Decl) (name : List ℕ) (at cube place : ℕ) (names : List (List (List (List ℕ))))
    (rows : List CodedRow) → (e.name ≡ name → at ≡ cube) → AllStandForValues e (lists_at names at) rows
    → AllByRecursion (HasItsName name place (names_at names cube place)) (map (stored_for e.name (lists_at names at)) rows)
rows_named e name at cube place names [] same h = tt
rows_named e name at cube place names (row ∷ rows) same h = (
  λ text its here.
      subst (λ (texts : List (List ℕ)). Contains texts text) (sym (at_place names cube place))
      (coe 0 1 (i. Contains (texts_at (lists_at names (same its i)) place) text)
      (row_named e (lists_at names at) place row text h.0 here)),
  rows_named e name at cube place names rows same h.1,
)

pub put_named : (e : Decl) (name : List ℕ) (at cube place : ℕ) (names : List (List (List (List ℕ))))
    (change : CodedChange) (operation : Operation) → (e.name ≡ name → at ≡ cube)
    → ChangesFor e (lists_at names at) change operation
    → All (HasItsName name place (names_at names cube place)) (rows_put operation)
put_named e name at cube place names (Come rows) (Put stored) same z =
    subst (λ (put : List StoredRow). All (HasItsName name place (names_at names cube place)) put) (sym z.are)
    (All-from_recursion (HasItsName name place (names_at names cube place)) (map (stored_for e.name (lists_at names at)) rows)
    (rows_named e name at cube place names rows same z.each))
put_named e name at cube place names (Go span) (Drop region) same z =
    All-nil (HasItsName name place (names_at names cube place))
put_named e name at cube place names (Come rows) (Drop region) same z = absurd z
put_named e name at cube place names (Go span) (Put stored) same z = absurd z

-- ---- columns

-- None of the names of dimensions stands among those before.
not_before : (dims : List DimDecl) (more before : List (List ℕ)) → repeated_after before (dim_names dims ++ more) ≡ None
    → (k : ℕ) (dim : DimDecl) → slice_get dims k ≡ Some dim → list_any (bytes_eq dim.name) before ≡ false
not_before [] more before h k dim is = absurd (none-some dim is)
not_before (x ∷ dims) more before h zero dim is =
    ap (λ (y : DimDecl). list_any (bytes_eq y.name) before) (sym (same_Some x dim is))
    ∙ first_is_new before (dim_names dims ++ more) x.name h
not_before (x ∷ dims) more before h (suc k) dim is =
    or_right (bytes_eq dim.name x.name) (list_any (bytes_eq dim.name) before)
    (not_before dims more (x.name ∷ before) (later_are_new before (dim_names dims ++ more) x.name h) k dim is)

turned : (a b : List ℕ) → bytes_eq a b ≡ false → bytes_eq b a ≡ false
turned a b other =
    false_from_ne_true (bytes_eq b a)
    (λ same. both_ways (bytes_eq a b) other ((bytes_eq-Decides a b).1 (sym ((bytes_eq-Decides b a).0 same))))

place_from : (dims : List DimDecl) (more before : List (List ℕ)) (start : ℕ)
    → repeated_after before (dim_names dims ++ more) ≡ None → (k : ℕ) (dim : DimDecl) → slice_get dims k ≡ Some dim
    → position_from (λ x. bytes_eq x.name dim.name) start dims ≡ Some (start + k)
place_from [] more before start h k dim is = absurd (none-some dim is)
place_from (x ∷ dims) more before start h zero dim is =
    let same : x.name ≡ dim.name = ap (λ (y : DimDecl). y.name) (same_Some x dim is) in
    ap (λ (t : Bool). cond t (Some start) (position_from (λ y. bytes_eq y.name dim.name) (start + 1) dims))
    ((bytes_eq-Decides x.name dim.name).1 same)
    ∙ ap (λ (n : ℕ). Some n) (omega arith)
place_from (x ∷ dims) more before start h (suc k) dim is =
    let later = later_are_new before (dim_names dims ++ more) x.name h in
    let other = or_left (bytes_eq dim.name x.name) (list_any (bytes_eq dim.name) before)
    (not_before dims more (x.name ∷ before) later k dim is) in
    ap (λ (t : Bool). cond t (Some start) (position_from (λ y. bytes_eq y.name dim.name) (start + 1) dims))
    (turned dim.name x.name other)
    ∙ place_from dims more (x.name ∷ before) (start + 1) later k dim is
    ∙ ap (λ (n : ℕ). Some n) (omega arith)

no_duplicate : (o : Option (List ℕ)) (more : List (Option SchemaFault))
    → first_some (option_map DuplicateName o ∷ more) ≡ None → o ≡ None
no_duplicate None more h = refl
no_duplicate (Some name) more h = absurd (none-some (DuplicateName name) (sym h))

-- In a cube that can be stored each dimension is found by its name.
found_by_name : (d : Decl) (place : ℕ) (dim : DimDecl) → IsStorable d → slice_get d.dims place ≡ Some dim
    → dim_place d dim.name ≡ Some place
found_by_name d place dim storable is =
    place_from d.dims d.metrics [] 0 (no_duplicate (first_repeated (column_names d)) _ storable) place dim is
    ∙ ap (λ (n : ℕ). Some n) (omega arith)

-- ---- conditions

compared : (c : Cond) (name text : List ℕ) → Compares name text c
    → (cond_name c ≡ name) × Contains (values_of_test (cond_test c)) (Text text)
compared (Equal column wanted) name text h = (h.0, (0, omega arith, h.1))
compared (In column wanted) name text h = h
compared (Between column first last) name text h = absurd h

among_resolved : (d : Decl) (conds : List Cond) (cond : Cond) (condition : Condition) → Contains conds cond
    → resolved_cond d cond ≡ Some condition → Contains (filter_map (resolved_cond d) conds) condition
among_resolved d [] cond condition (k, l, at) is = absurd (omega (arith, l))
among_resolved d (c ∷ conds) cond condition (zero, l, at) is =
    subst (λ (o : Option Condition). Contains (cons_option o (filter_map (resolved_cond d) conds)) condition)
    (sym (ap (resolved_cond d) at ∙ is)) (0, omega arith, refl)
among_resolved d (c ∷ conds) cond condition (suc k, l, at) is =
    behind (resolved_cond d c) (among_resolved d conds cond condition (k, omega (arith, l), at) is)
  where
    behind : (o : Option Condition) → Contains (filter_map (resolved_cond d) conds) condition
        → Contains (cons_option o (filter_map (resolved_cond d) conds)) condition
    behind None h = h
    behind (Some c) (k, l, at) = (suc k, omega (arith, l), at)

pub compares_with : (d : Decl) (place : ℕ) (dim : DimDecl) (conds : List Cond) (cond : Cond) (text : List ℕ)
    → IsStorable d → slice_get d.dims place ≡ Some dim → Contains conds cond → Compares dim.name text cond
    → length text ≤ TEXT_BYTES → ComparesWith (resolved_region d conds).conditions place text
compares_with d place dim conds cond text storable is one compares short =
    let h = compared cond dim.name text compares in
    let found : dim_place d (cond_name cond) ≡ Some place = ap (dim_place d) h.0 ∙ found_by_name d place dim storable is in
    record {
      condition = record { place = place; test = cond_test cond };
      one =
          among_resolved d conds cond (record { place = place; test = cond_test cond }) one
          (ap (option_map (λ (p : ℕ). record { place = p; test = cond_test cond })) found);
      here = refl;
      compares = h.1;
      short = short;
    }
