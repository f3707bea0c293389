-- The dictionaries of cubes that are given names, cube by cube and dimension by dimension.
use Rattle.std.proofs.Common.{◌≡◌, ℕ, zero, suc, ◌+◌, ◌<◌, ◌≤◌, Bool, true, false, cond, List, [], ◌∷◌, ◌++◌, length, map, take, drop, get_or, set, Some, refl, sym, ap, subst, ◌∙◌, append_assoc, arith}
use Rattle.std.specs.Prelude.{MatchBool, slice_get}
use Rattle.std.specs.List.{AllZip}
use Rattle.std.proofs.lemmas.List.{append-nil, take_all, drop_all, length-append, length-drop, length-map, length-take-le, get_or_at, get_or_push, set_at, drop_more, take_more}
use Rattle.std.proofs.lemmas.Slice.Zip.{AllZip-long}
use Rattle.cube_values.specs.declared.shape.CubeShape.{CubeShape}
use Rattle.cube_values.specs.Shapes.{IsSoundCube}
use Rattle.cube_language.specs.declared.decl.DimDecl.{DimDecl}
use Rattle.cube_language.specs.declared.decl.Decl.{Decl}
use Rattle.cube_language.specs.Cubes.{size_of, sizes_of}
use Rattle.cube_schema.specs.Schemas.{cube_of}
use Rattle.cube_rounds.specs.Demands.{DimNames}
use Rattle.names_dict.specs.Dictionaries.{Dictionary, IsSoundDictionary, IsTextDimension, empty_dictionaries, new_dictionaries, dictionaries_of, dictionary_at}
use Rattle.kept_data.specs.KeptDicts.{with_names, cube_dictionaries, dictionaries_with_names, with_names_at}
use Rattle.kept_data.specs.KeptNames.{AreKeptNames, FitKeptNames, HasKeptNames, HaveKeptNames}
use Rattle.kept_data.proofs.ApartNames.{apart_from, none_distinct}
use Rattle.kept_data.proofs.NamedDicts.{nameless}
use Rattle.kept_data.proofs.ZippedLists.{zipped_at, zipped_long, fit_at}

-- ---- the dictionaries of a new cube

pub new_long : (dims : List DimDecl) → length (empty_dictionaries (sizes_of dims) (map (λ dim. dim.text) dims)) ≡ length dims
new_long [] = refl
new_long (dim ∷ dims) = ap suc (new_long dims)

-- A dictionary without names may have these, and texts where there are any.
pub record MayHave (text : Bool) (d : Dictionary) (names : List (List ℕ)) : Type 0 where
  pub empty : d.names ≡ []
  pub sound : IsSoundDictionary (with_names d names)
  pub texts : 0 < length names → text ≡ true

pub may_have : (text : Bool) (cardinality : ℕ) (names : List (List ℕ)) → MatchBool text (AreKeptNames cardinality names) (names ≡ [])
    → MayHave text (record { cardinality = cond text cardinality 0; names = [] }) names
may_have true cardinality names kept = record { empty = refl; sound = record { distinct = apart_from names kept.differ; fits = kept.few }; texts = λ some. refl }
may_have false cardinality names none = record {
  empty = refl;
  sound = subst (λ (n : List (List ℕ)). IsSoundDictionary (record { cardinality = 0; names = n })) (sym none) (record { distinct = none_distinct; fits = omega arith });
  texts = λ some. absurd (omega (arith, some, ap length none));
}

pub may_have_at : (dims : List DimDecl) (lists : DimNames) (i : ℕ) → AllZip FitKeptNames dims lists → i < length lists
    → (text : Bool) × (slice_get (map (λ dim. dim.text) dims) i ≡ Some text)
    × MayHave text (get_or (empty_dictionaries (sizes_of dims) (map (λ dim. dim.text) dims)) i nameless) (get_or lists i [])
may_have_at [] [] i fit lt = absurd (omega arith)
may_have_at [] (names ∷ lists) i fit lt = absurd fit
may_have_at (dim ∷ dims) [] i fit lt = absurd fit
may_have_at (dim ∷ dims) (names ∷ lists) zero fit lt = (dim.text, refl, may_have dim.text dim.cardinality names fit.0)
may_have_at (dim ∷ dims) (names ∷ lists) (suc i) fit lt = may_have_at dims lists i fit.1 (omega arith)

-- ---- one cube

pub lists_long : (cube : Decl) (lists : DimNames) → HasKeptNames cube lists → length (new_dictionaries (cube_of cube)) ≡ length lists
lists_long cube lists fit = new_long cube.dims ∙ sym (AllZip-long FitKeptNames cube.dims lists fit)

pub cube_long : (cube : Decl) (lists : DimNames) → HasKeptNames cube lists → length (cube_dictionaries cube lists) ≡ length lists
cube_long cube lists fit = zipped_long with_names (new_dictionaries (cube_of cube)) lists (lists_long cube lists fit)

-- The dictionaries of the first dimensions have their names, and those of the others have none.
abbrev pub half_named : Decl → DimNames → ℕ → List Dictionary
half_named cube lists i = take i (cube_dictionaries cube lists) ++ drop i (new_dictionaries (cube_of cube))

-- The next of them.
pub record IsHalfNamed (cube : Decl) (lists : DimNames) (i : ℕ) : Type 0 where
  pub long : i < length (half_named cube lists i)
  pub next : get_or (half_named cube lists i) i nameless ≡ get_or (new_dictionaries (cube_of cube)) i nameless
  pub after : set (half_named cube lists i) i (with_names (get_or (half_named cube lists i) i nameless) (get_or lists i [])) ≡ half_named cube lists (i + 1)

pub half_at : (cube : Decl) (lists : DimNames) (i : ℕ) → HasKeptNames cube lists → i < length lists → IsHalfNamed cube lists i
half_at cube lists i fit lt =
    let new = new_dictionaries (cube_of cube) in
    let all = cube_dictionaries cube lists in
    let new-long = lists_long cube lists fit in
    let front : length (take i all) ≡ i = length-take-le i all (omega (arith, lt, cube_long cube lists fit)) in
    let d = get_or new i nameless in
    let names = get_or lists i [] in
    let parts : half_named cube lists i ≡ take i all ++ d ∷ drop (i + 1) new = ap (λ (ds : List Dictionary). take i all ++ ds) (drop_more new i nameless (omega (arith, lt, new-long))) in
    let here : get_or (half_named cube lists i) i nameless ≡ d = ap (λ (ds : List Dictionary). get_or ds i nameless) parts ∙ get_or_at (take i all) d (drop (i + 1) new) nameless i front in
    let made : with_names d names ≡ get_or all i nameless = sym (zipped_at with_names new lists i nameless [] nameless (omega (arith, lt, new-long)) lt) in
    record {
      long = omega (arith, lt, new-long, front, length-append (take i all) (drop i new), length-drop i new);
      next = here;
      after =
          (λ j. set (parts j) i (with_names (here j) names))
          ∙ set_at (take i all) d (drop (i + 1) new) (with_names d names) i front
          ∙ ap (λ (e : Dictionary). take i all ++ e ∷ drop (i + 1) new) made
          ∙ sym (append_assoc (take i all) (get_or all i nameless ∷ []) (drop (i + 1) new))
          ∙ ap (λ (ds : List Dictionary). ds ++ drop (i + 1) new) (sym (take_more all i nameless (omega (arith, lt, cube_long cube lists fit))));
    }

-- ---- the last of several cubes

pub last_cube : (before : List (List Dictionary)) (dims : List Dictionary) (cube : ℕ) → length before ≡ cube → dictionaries_of (before ++ dims ∷ []) cube ≡ dims
last_cube before dims cube place = get_or_push before dims [] cube place

pub last_named : (before : List (List Dictionary)) (dims : List Dictionary) (cube dim : ℕ) (names : List (List ℕ)) → length before ≡ cube
    → with_names_at (before ++ dims ∷ []) cube dim names ≡ before ++ set dims dim (with_names (get_or dims dim nameless) names) ∷ []
last_named before dims cube dim names place =
    ap (λ (ds : List Dictionary). set (before ++ dims ∷ []) cube (set ds dim (with_names (get_or ds dim nameless) names))) (last_cube before dims cube place)
    ∙ set_at before dims [] (set dims dim (with_names (get_or dims dim nameless) names)) cube place

-- What is asked before the next dimension of the last cube gets its names.
pub record MayBeNamed (cube : Decl) (current : List (List Dictionary)) (place dim : ℕ) (names : List (List ℕ)) : Type 0 where
  pub text : 0 < length names → IsTextDimension (cube_of cube) dim
  pub made : dim < length (dictionaries_of current place)
  pub empty : (dictionary_at current place dim).names ≡ []
  pub sound : IsSoundDictionary (with_names (dictionary_at current place dim) names)

may_be_next : (cube : Decl) (lists : DimNames) (before : List (List Dictionary)) (place dim : ℕ) → HasKeptNames cube lists → dim < length lists → length before ≡ place
    → MayBeNamed cube (before ++ half_named cube lists dim ∷ []) place dim (get_or lists dim [])
may_be_next cube lists before place dim fit lt at =
    let half = half_at cube lists dim fit lt in
    let (text, is, may) = may_have_at cube.dims lists dim fit lt in
    let there : dictionaries_of (before ++ half_named cube lists dim ∷ []) place ≡ half_named cube lists dim = last_cube before (half_named cube lists dim) place at in
    let here : dictionary_at (before ++ half_named cube lists dim ∷ []) place dim ≡ get_or (new_dictionaries (cube_of cube)) dim nameless =
    ap (λ (ds : List Dictionary). get_or ds dim nameless) there ∙ half.next in
    record {
      text = λ some. is ∙ ap Some (may.texts some);
      made = subst (λ (ds : List Dictionary). dim < length ds) (sym there) half.long;
      empty = ap (λ (d : Dictionary). d.names) here ∙ may.empty;
      sound = subst (λ (d : Dictionary). IsSoundDictionary (with_names d (get_or lists dim []))) (sym here) may.sound;
    }

pub may_be_named : (cube : Decl) (lists : DimNames) (before current : List (List Dictionary)) (place dim : ℕ) (names : List (List ℕ)) → HasKeptNames cube lists → dim < length lists
    → length before ≡ place → current ≡ before ++ half_named cube lists dim ∷ [] → names ≡ get_or lists dim [] → MayBeNamed cube current place dim names
may_be_named cube lists before current place dim names fit lt at so_far is =
    coe 1 0 (i. MayBeNamed cube (so_far i) place dim (is i)) (may_be_next cube lists before place dim fit lt at)

-- The next dimension has got its names.
pub one_dim_more : (cube : Decl) (lists : DimNames) (before current new : List (List Dictionary)) (place dim : ℕ) (names : List (List ℕ)) → HasKeptNames cube lists → dim < length lists
    → length before ≡ place → current ≡ before ++ half_named cube lists dim ∷ [] → names ≡ get_or lists dim [] → new ≡ with_names_at current place dim names
    → new ≡ before ++ half_named cube lists (dim + 1) ∷ []
one_dim_more cube lists before current new place dim names fit lt at so_far is named =
    named
    ∙ (λ i. with_names_at (so_far i) place dim (is i))
    ∙ last_named before (half_named cube lists dim) place dim (get_or lists dim []) at
    ∙ ap (λ (ds : List Dictionary). before ++ ds ∷ []) (half_at cube lists dim fit lt).after

pub all_named : (cube : Decl) (lists : DimNames) (dim : ℕ) → HasKeptNames cube lists → length lists ≤ dim → half_named cube lists dim ≡ cube_dictionaries cube lists
all_named cube lists dim fit past =
    (λ i. take_all dim (cube_dictionaries cube lists) (omega (arith, cube_long cube lists fit, past)) i ++ drop_all dim (new_dictionaries (cube_of cube)) (omega (arith, lists_long cube lists fit, past)) i)
    ∙ append-nil (cube_dictionaries cube lists)

-- A cube has so few dimensions that a number of 32 bits counts them.
pub few_lists : (cube : Decl) (lists : DimNames) (shape : CubeShape) → HasKeptNames cube lists → shape ≡ cube_of cube → IsSoundCube shape → length lists ≤ 16
few_lists cube lists shape fit is sound =
    omega (arith, AllZip-long FitKeptNames cube.dims lists fit, length-map cube.dims size_of, ap (λ (s : CubeShape). length s.shape.sizes) is, sound.shape.dims)

-- ---- all cubes

pub cubes_long : (cubes : List Decl) (names : List DimNames) → HaveKeptNames cubes names → length (dictionaries_with_names cubes names) ≡ length names
cubes_long cubes names fit = zipped_long cube_dictionaries cubes names (sym (AllZip-long HasKeptNames cubes names fit))

-- The place of a cube, with the cube and its names, where those before it have their dictionaries.
pub record IsNextCube (cubes : List Decl) (current : List (List Dictionary)) (at : ℕ) (cube : Decl) (lists : DimNames) : Type 0 where
  pub within : at < length cubes
  pub place : at ≡ length current
  pub fit : HasKeptNames cube lists

pub is_next_cube : (cubes : List Decl) (names : List DimNames) (current : List (List Dictionary)) (at : ℕ) (cube : Decl) (lists : DimNames) → HaveKeptNames cubes names
    → at < length names → current ≡ take at (dictionaries_with_names cubes names) → cube ≡ get_or cubes at cube → lists ≡ get_or names at lists
    → IsNextCube cubes current at cube lists
is_next_cube cubes names current at cube lists fit lt so_far cube-is lists-is = record {
  within = omega (arith, lt, AllZip-long HasKeptNames cubes names fit);
  place = sym (length-take-le at (dictionaries_with_names cubes names) (omega (arith, lt, cubes_long cubes names fit))) ∙ sym (ap (λ (ds : List (List Dictionary)). length ds) so_far);
  fit = coe 1 0 (i. HasKeptNames (cube-is i) (lists-is i)) (fit_at HasKeptNames cubes names at cube lists fit lt);
}

pub one_cube_more : (cubes : List Decl) (names : List DimNames) (current new : List (List Dictionary)) (at : ℕ) (cube : Decl) (lists : DimNames) → HaveKeptNames cubes names
    → at < length names → current ≡ take at (dictionaries_with_names cubes names) → cube ≡ get_or cubes at cube → lists ≡ get_or names at lists
    → new ≡ current ++ cube_dictionaries cube lists ∷ [] → new ≡ take (at + 1) (dictionaries_with_names cubes names)
one_cube_more cubes names current new at cube lists fit lt so_far cube-is lists-is added =
    let all = dictionaries_with_names cubes names in
    let here : cube_dictionaries cube lists ≡ get_or all at [] =
    (λ i. cube_dictionaries (cube-is i) (lists-is i)) ∙ sym (zipped_at cube_dictionaries cubes names at cube lists [] (omega (arith, lt, AllZip-long HasKeptNames cubes names fit)) lt) in
    added
    ∙ (λ i. so_far i ++ here i ∷ [])
    ∙ sym (take_more all at [] (omega (arith, lt, cubes_long cubes names fit)))
