-- Which names dictionaries with the kept ones have, and where.
use Rattle.std.proofs.Common.{◌≡◌, ℕ, zero, suc, List, [], ◌∷◌, length, map, get_or, Some, refl, sym, ap, ◌∙◌, arith, ◌≤◌, subst}
use Rattle.std.specs.Prelude.{slice_get}
use Rattle.std.specs.List.{zip, AllZip}
use Rattle.std.proofs.lemmas.List.{get_or_past, nil_from_length}
use Rattle.std.proofs.lemmas.Option.{none-some, same_Some}
use Rattle.std.proofs.lemmas.Slice.Zip.{AllZip-long}
use Rattle.cube_values.specs.declared.shape.CubeShape.{CubeShape}
use Rattle.cube_language.specs.declared.decl.DimDecl.{DimDecl}
use Rattle.cube_language.specs.declared.decl.Decl.{Decl}
use Rattle.cube_language.specs.Cubes.{sizes_of}
use Rattle.cube_schema.specs.Schemas.{cube_of}
use Rattle.cube_rounds.specs.Demands.{DimNames}
use Rattle.names_dict.specs.Dictionaries.{Dictionary, IsSoundDictionary, number_of, empty_dictionaries, new_dictionaries, made_dictionaries, dictionary_in, dictionaries_of, dictionary_at, dictionary_for, name_at, names_of}
use Rattle.kept_data.specs.KeptDicts.{with_names, cube_dictionaries, dictionaries_with_names}
use Rattle.kept_data.specs.KeptNames.{FitKeptNames, HasKeptNames, HaveKeptNames}
use Rattle.kept_data.proofs.ApartNames.{none_distinct, found_at}
use Rattle.kept_data.proofs.NamedDicts.{nameless}
use Rattle.kept_data.proofs.NamedCubes.{may_have, lists_long, cube_long, cubes_long}

-- ---- the names

dim_names_are : (new : List Dictionary) (lists : DimNames) → length new ≡ length lists
    → map (λ (d : Dictionary). d.names) (map (λ d. with_names d.0 d.1) (zip new lists)) ≡ lists
dim_names_are [] [] same = refl
dim_names_are [] (names ∷ lists) same = absurd (omega arith)
dim_names_are (d ∷ new) [] same = absurd (omega arith)
dim_names_are (d ∷ new) (names ∷ lists) same = ap (λ (l : DimNames). names ∷ l) (dim_names_are new lists (omega arith))

pub names_are : (cubes : List Decl) (names : List DimNames) → HaveKeptNames cubes names → names_of (dictionaries_with_names cubes names) ≡ names
names_are [] [] fit = refl
names_are [] (lists ∷ names) fit = absurd fit
names_are (cube ∷ cubes) [] fit = absurd fit
names_are (cube ∷ cubes) (lists ∷ names) fit =
    λ i. dim_names_are (new_dictionaries (cube_of cube)) lists (lists_long cube lists fit.0) i ∷ names_are cubes names fit.1 i

mapped_at : {X Y : Type 0} (f : X → Y) (xs : List X) (i : ℕ) (d : X) → get_or (map f xs) i (f d) ≡ f (get_or xs i d)
mapped_at f [] i d = refl
mapped_at f (x ∷ xs) zero d = refl
mapped_at f (x ∷ xs) (suc i) d = mapped_at f xs i d

pub each_is : (cubes : List Decl) (names : List DimNames) (cube dim : ℕ) → HaveKeptNames cubes names
    → (dictionary_at (dictionaries_with_names cubes names) cube dim).names ≡ get_or (get_or names cube []) dim []
each_is cubes names cube dim fit =
    let all = dictionaries_with_names cubes names in
    sym (mapped_at (λ (d : Dictionary). d.names) (get_or all cube []) dim nameless)
    ∙ ap (λ (lists : DimNames). get_or lists dim []) (sym (mapped_at (λ (dims : List Dictionary). map (λ (d : Dictionary). d.names) dims) all cube []))
    ∙ ap (λ (n : List DimNames). get_or (get_or n cube []) dim []) (names_are cubes names fit)

-- ---- sound dictionaries

nameless_sound : IsSoundDictionary nameless
nameless_sound = record { distinct = none_distinct; fits = omega arith }

dims_sound : (dims : List DimDecl) (lists : DimNames) (dim : ℕ) → AllZip FitKeptNames dims lists
    → IsSoundDictionary (get_or (map (λ d. with_names d.0 d.1) (zip (empty_dictionaries (sizes_of dims) (map (λ d. d.text) dims)) lists)) dim nameless)
dims_sound [] [] dim fit = nameless_sound
dims_sound [] (names ∷ lists) dim fit = absurd fit
dims_sound (d ∷ dims) [] dim fit = absurd fit
dims_sound (d ∷ dims) (names ∷ lists) zero fit = (may_have d.text d.cardinality names fit.0).sound
dims_sound (d ∷ dims) (names ∷ lists) (suc dim) fit = dims_sound dims lists dim fit.1

pub each_sound : (cubes : List Decl) (names : List DimNames) (cube dim : ℕ) → HaveKeptNames cubes names
    → IsSoundDictionary (dictionary_at (dictionaries_with_names cubes names) cube dim)
each_sound [] [] cube dim fit = nameless_sound
each_sound [] (lists ∷ names) cube dim fit = absurd fit
each_sound (d ∷ cubes) [] cube dim fit = absurd fit
each_sound (d ∷ cubes) (lists ∷ names) zero dim fit = dims_sound d.dims lists dim fit.0
each_sound (d ∷ cubes) (lists ∷ names) (suc cube) dim fit = each_sound cubes names cube dim fit.1

-- ---- each name at its place

pub each_found : (cubes : List Decl) (names : List DimNames) (cube dim n : ℕ) (name : List ℕ) → HaveKeptNames cubes names
    → name_at (dictionaries_with_names cubes names) cube dim n ≡ Some name
    → number_of (dictionary_at (dictionaries_with_names cubes names) cube dim) name ≡ Some n
each_found cubes names cube dim n name fit is =
    let d = dictionary_at (dictionaries_with_names cubes names) cube dim in
    found_at d.names n name (each_sound cubes names cube dim fit).distinct is

-- ---- dictionaries that are made, and those that are not there

are_made : (shape : CubeShape) (dims : List Dictionary) → length (new_dictionaries shape) ≡ length dims → made_dictionaries shape dims ≡ dims
are_made shape [] same = nil_from_length (new_dictionaries shape) same
are_made shape (d ∷ dims) same = refl

cube_made : (cube : Decl) (lists : DimNames) → HasKeptNames cube lists → made_dictionaries (cube_of cube) (cube_dictionaries cube lists) ≡ cube_dictionaries cube lists
cube_made cube lists fit = are_made (cube_of cube) (cube_dictionaries cube lists) (lists_long cube lists fit ∙ sym (cube_long cube lists fit))

place_made : (cubes : List Decl) (names : List DimNames) (place : ℕ) (cube : Decl) → HaveKeptNames cubes names → slice_get cubes place ≡ Some cube
    → made_dictionaries (cube_of cube) (dictionaries_of (dictionaries_with_names cubes names) place) ≡ dictionaries_of (dictionaries_with_names cubes names) place
place_made [] names place cube fit is = absurd (none-some cube is)
place_made (d ∷ cubes) [] place cube fit is = absurd fit
place_made (d ∷ cubes) (lists ∷ names) zero cube fit is =
    subst (λ (c : Decl). made_dictionaries (cube_of c) (cube_dictionaries d lists) ≡ cube_dictionaries d lists) (same_Some d cube is) (cube_made d lists fit.0)
place_made (d ∷ cubes) (lists ∷ names) (suc place) cube fit is = place_made cubes names place cube fit.1 is

pub each_made : (cubes : List Decl) (names : List DimNames) (place dim : ℕ) (cube : Decl) → HaveKeptNames cubes names → slice_get cubes place ≡ Some cube
    → dictionary_for (cube_of cube) (dictionaries_with_names cubes names) place dim ≡ dictionary_at (dictionaries_with_names cubes names) place dim
each_made cubes names place dim cube fit is = ap (λ (dims : List Dictionary). dictionary_in dims dim) (place_made cubes names place cube fit is)

pub none_past : (cubes : List Decl) (names : List DimNames) (place : ℕ) → HaveKeptNames cubes names → length cubes ≤ place
    → dictionaries_of (dictionaries_with_names cubes names) place ≡ []
none_past cubes names place fit past =
    get_or_past (dictionaries_with_names cubes names) place [] (omega (arith, past, cubes_long cubes names fit, AllZip-long HasKeptNames cubes names fit))
