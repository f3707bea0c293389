-- What a session knows of cubes from one statement to the next: the cube that it found last, and the texts of cubes by
-- the places of these; and when its own calls told it so.
-- Source: Cubrick (VLDB 2016), dictionary encoding of text dimensions; what is known by own calls is this project's own.
use Rattle.std.specs.Prelude.{◌≡◌, ℕ, List, [], length, map, get_or, replicate, Option, Some, None, IfSome, cond}
use Rattle.std.specs.Str.{bytes_eq}
use Rattle.cube_language.specs.declared.decl.DimDecl.{DimDecl}
use Rattle.core_program.specs.CoreFits.{CoreEntry}
use Rattle.core_cubes.specs.StandingCubes.{HasFound}
use Rattle.core_names.specs.KnownNumbers.{TextsByDim, AreNumbersTold}
use Rattle.session_texts.specs.declared.texts.FoundCube.{FoundCube}
use Rattle.session_texts.specs.declared.texts.TextsOfCube.{TextsOfCube}

-- How many coordinates each dimension has.
abbrev pub cardinalities : List DimDecl → List ℕ
cardinalities dims = map (λ dim. dim.cardinality) dims

-- No text is known of a cube with these dimensions.
abbrev pub no_texts : List DimDecl → TextsByDim
no_texts dims = replicate (length dims) []

-- What is kept of the cube at a place, if anything is.
abbrev pub kept_at : List (Option TextsOfCube) → ℕ → Option TextsOfCube
kept_at cubes place = get_or cubes place None

-- What a session keeps: the cube that it found last, and the texts by the places of their cubes.
pub record KeptTexts : Type 0 where
  pub last : Option FoundCube
  pub cubes : List (Option TextsOfCube)

-- The cube of a name, where it was the last one found.
abbrev pub last_named : List ℕ → Option FoundCube → Option FoundCube
last_named name None = None
last_named name (Some cube) = cond (bytes_eq cube.name name) (Some cube) None

-- Kept texts are of a cube with such dimensions.
abbrev pub AreOfDimensions : List DimDecl → TextsOfCube → Type 0
AreOfDimensions dims cube = cube.sizes.items ≡ cardinalities dims

-- Each dimension of a cube has its known texts, and the session was told of the number of each.
pub record AreCubeTextsTold (own : List CoreEntry) (place : ℕ) (dims : List DimDecl) (known : TextsByDim) : Type 0 where
  pub long : length known ≡ length dims
  pub right : AreNumbersTold own place dims known

-- So it is of kept texts, by the dimensions of which they are.
pub record AreKeptTextsTold (own : List CoreEntry) (place : ℕ) (cube : TextsOfCube) : Type 0 where
  pub dims : List DimDecl
  pub sizes : AreOfDimensions dims cube
  pub told : AreCubeTextsTold own place dims cube.texts

-- The session has found a cube by its name.
abbrev pub IsFoundCube : List CoreEntry → FoundCube → Type 0
IsFoundCube own cube = HasFound own cube.name cube.place cube.schema

-- So it is of all texts that are kept.
abbrev pub AreAllTextsTold : List CoreEntry → List (Option TextsOfCube) → Type 0
AreAllTextsTold own cubes =
    (place : ℕ) (cube : TextsOfCube) → kept_at cubes place ≡ Some cube → AreKeptTextsTold own place cube

-- So it is of all that is kept.
pub record AreTextsTold (own : List CoreEntry) (kept : KeptTexts) : Type 0 where
  pub found : IfSome kept.last (IsFoundCube own)
  pub texts : AreAllTextsTold own kept.cubes
