-- Dictionaries in one memory, as what gives texts their codes.
-- Source: this project's own.
use Rattle.std.specs.Prelude.{◌≡◌, ◌⊎◌, ℕ, ◌<◌, ◌≤◌, List, [], length, take, None, All, Contains, if◌then◌else◌}
use Rattle.std.specs.List.{AllZip}
use Rattle.cube_language.specs.Cubes.{first_repeated}
use Rattle.cube_language.specs.declared.bad_row.TheConstants.{TEXT_BYTES}
use Rattle.cube_language.specs.declared.decl.Decl.{Decl}
use Rattle.cube_language.specs.declared.decl.DimDecl.{DimDecl}
use Rattle.names_dict.specs.Dictionaries.{Dictionary, dictionaries_of, dictionary_at, names_of}
use Rattle.condition_spans.specs.Codes.{lists_at, texts_at}
use Rattle.row_encoding.specs.FinalCodes.{CarriesOn}

-- A dictionary may end with these names: its own stand first, and there are no more than may be.
pub record MayBecome (dictionary : Dictionary) (names : List (List ℕ)) : Type 0 where
  pub first : take (length dictionary.names) names ≡ dictionary.names
  pub few : length names ≤ dictionary.cardinality

-- Each dictionary that is made may end with its names.
abbrev pub MayEndWith : List (List Dictionary) → List (List (List (List ℕ))) → Type 0
MayEndWith cubes names =
    (place dim : ℕ) → dim < length (dictionaries_of cubes place)
    → MayBecome (dictionary_at cubes place dim) (texts_at (lists_at names place) dim)

-- The dictionary of a dimension may have a name for each coordinate, or none where the dimension has no texts. Its names
-- are distinct and not too long.
pub record IsDictionaryOf (dim : DimDecl) (dictionary : Dictionary) : Type 0 where
  pub most : dictionary.cardinality ≡ (if dim.text then dim.cardinality else 0)
  pub few : length dictionary.names ≤ dictionary.cardinality
  pub distinct : first_repeated dictionary.names ≡ None
  pub short : All (λ name. length name ≤ TEXT_BYTES) dictionary.names

-- The dictionaries of the cube at a place are not made, or are those of the dimensions of this declaration.
abbrev pub Suit : List (List Dictionary) → ℕ → Decl → Type 0
Suit cubes place d =
    (dictionaries_of cubes place ≡ []) ⊎ AllZip IsDictionaryOf d.dims (dictionaries_of cubes place)

-- A name stands in a dictionary.
abbrev pub HasName : List (List Dictionary) → ℕ → ℕ → List ℕ → Type 0
HasName cubes place dim name = Contains (dictionary_at cubes place dim).names name

-- There is nothing else of dictionaries that could change, and whoever gives them texts keeps no record of the numbers.
abbrev pub HaveNothingElse : List (List Dictionary) → List (List Dictionary) → Type 0
HaveNothingElse old new = Unit {0}

abbrev pub MayHaveGiven : List (List Dictionary) → ℕ → ℕ → ℕ → Type 0
MayHaveGiven cubes place dim number = Unit {0}

pub nothing_else : CarriesOn HaveNothingElse MayHaveGiven
nothing_else = record {
  itself = λ now. tt;
  goes_on = λ old mid new h k. tt;
  given = λ old new place dim number h k. tt;
}

-- ---- what holds

-- Dictionaries that are not made suit each declaration.
abbrev pub NoneSuit : Type 0
NoneSuit = (place : ℕ) (d : Decl) → Suit [] place d

-- Dictionaries that suit declarations may end with the names that they have.
abbrev pub MayEndAsTheyAre : Type 0
MayEndAsTheyAre =
    (cubes : List (List Dictionary)) → ((place : ℕ) → (d : Decl) × Suit cubes place d) → MayEndWith cubes (names_of cubes)
