-- What a round has to be, besides its spelling: what a reader demands of it behind the rounds before it.
-- Source: Cubrick (VLDB 2016) for bricks and dictionaries, AOSI (ICDE 2018) for entries; the rest is own.
use Rattle.std.specs.Prelude.{◌≡◌, ◌≢◌, ℕ, ◌+◌, ◌^◌, ◌<◌, ◌≤◌, List, [], ◌∷◌, ◌++◌, length, map, IsUtf8, FitsSigned, MatchBool, None, if◌then◌else◌}
use Rattle.std.specs.Int.{w64}
use Rattle.std.specs.List.{zip, AllZip, AllByRecursion}
use Rattle.cube_values.specs.declared.entry.Entry.{Entry}
use Rattle.cube_values.specs.declared.row.CodedRow.{CodedRow}
use Rattle.cube_values.specs.EpochsVector.{maker, IsVector}
use Rattle.cube_values.specs.Shapes.{bricks_of}
use Rattle.cube_language.specs.declared.decl.TheConstants.{MOST_CUBES}
use Rattle.cube_language.specs.declared.decl.DimDecl.{DimDecl}
use Rattle.cube_language.specs.declared.decl.Decl.{Decl}
use Rattle.cube_language.specs.Cubes.{cubes_text, sizes_of, repeated_after}
use Rattle.cube_language.specs.CubesText.{Declares}
use Rattle.brick_address.specs.Addresses.{brick_of}
use Rattle.cube_rounds.specs.declared.round.RoundCube.{RoundCube}
use Rattle.cube_rounds.specs.declared.round.Round.{Round}
use Rattle.cube_rounds.specs.Bricks.{BrickPart}
use Rattle.cube_rounds.specs.Bytes.{round_bytes}

-- Names by dimension, for each cube by cube.
abbrev pub DimNames : Type 0
DimNames = List (List (List ℕ))

-- The names of each dimension, with more of them behind.
abbrev pub names_with : DimNames → DimNames → DimNames
names_with names more = map (λ d. d.0 ++ d.1) (zip names more)

-- A text coordinate is below the number of names, another one below the cardinality.
abbrev pub coord_limit : DimDecl × List (List ℕ) → ℕ
coord_limit d = if d.0.text then length d.1 else d.0.cardinality

-- The limit of each dimension's coordinates, by the names that there are.
abbrev pub coord_limits : Decl → DimNames → List ℕ
coord_limits cube names = map coord_limit (zip cube.dims names)

-- A coordinate is below its limit, and has four bytes.
pub record IsCoordBelow (limit coord : ℕ) : Type 0 where
  pub below : coord < limit
  pub small : coord < 2 ^ 32

-- A row of a brick of the cube.
pub record FitsRow (cube : Decl) (limits : List ℕ) (brick : ℕ) (row : CodedRow) : Type 0 where
  pub coords : AllZip IsCoordBelow limits row.coords
  pub place : brick_of (sizes_of cube.dims) row.coords ≡ brick
  pub metrics : AllZip (λ name number. FitsSigned w64 number) cube.metrics row.metrics

-- An entry is of an epoch of the round.
pub record IsOfEpochs (from epoch : ℕ) (entry : Entry) : Type 0 where
  pub above : from < maker entry
  pub within : maker entry ≤ epoch

-- What a round from one epoch up to another may have of a brick.
pub record FitsBrick (cube : Decl) (limits : List ℕ) (from epoch : ℕ) (b : BrickPart) : Type 0 where
  pub number : b.brick < bricks_of (sizes_of cube.dims)
  pub some : b.entries ≢ []
  pub vector : IsVector b.entries (length b.rows)
  pub epochs : AllByRecursion (IsOfEpochs from epoch) b.entries
  pub rows : AllByRecursion (FitsRow cube limits b.brick) b.rows

-- The numbers of bricks rise, from one that is not below the least.
abbrev pub AreRising : ℕ → List BrickPart → Type 0
AreRising least [] = Unit {0}
AreRising least (b ∷ bricks) = (least ≤ b.brick) × AreRising (b.brick + 1) bricks

-- New names of a dimension of texts: none stands among them or the earlier ones already, and all together
-- are no more than the cardinality.
pub record AreNewNames (cardinality : ℕ) (earlier names : List (List ℕ)) : Type 0 where
  pub texts : AllByRecursion IsUtf8 names
  pub short : AllByRecursion (λ name. length name < 2 ^ 8) names
  pub apart : repeated_after earlier names ≡ None
  pub most : length (earlier ++ names) ≤ cardinality

-- A dimension of numbers has no names.
abbrev pub FitNames : DimDecl × List (List ℕ) → List (List ℕ) → Type 0
FitNames d names = MatchBool d.0.text (AreNewNames d.0.cardinality d.1 names) (names ≡ [])

-- What a round from one epoch up to another may have of a cube with these names.
pub record FitsRoundCube (from epoch : ℕ) (cube : Decl) (earlier : DimNames) (part : RoundCube) : Type 0 where
  pub names : AllZip FitNames (zip cube.dims earlier) part.names
  pub rising : AreRising 0 part.bricks
  pub bricks : AllByRecursion
      (FitsBrick cube (coord_limits cube (names_with earlier part.names)) from epoch) part.bricks

-- A cube is made without names.
abbrev pub no_names : Decl → DimNames
no_names cube = map (λ dim. []) cube.dims

-- The names of cubes.
abbrev pub cube_names_of : List Decl → List (List ℕ)
cube_names_of cubes = map (λ cube. cube.name) cubes

-- Cubes that may be made behind these: some text declares them, none has the name of a cube before it, and
-- there are not too many.
pub record MayBeMade (before made : List Decl) : Type 0 where
  pub declared : Declares (cubes_text made) made
  pub apart : repeated_after (cube_names_of before) (cube_names_of made) ≡ None
  pub most : length (before ++ made) ≤ MOST_CUBES

-- There is a list of names for each dimension of each cube.
abbrev pub HaveDims : List Decl → List DimNames → Type 0
HaveDims cubes names = AllZip (λ cube lists. length lists ≡ length cube.dims) cubes names

-- A round that may stand behind these cubes with these names.
pub record FitsRound (before : List Decl) (names : List DimNames) (round : Round) : Type 0 where
  pub epochs : round.from < round.epoch
  pub small : round.epoch < 2 ^ 63
  pub dims : HaveDims before names
  pub made : MayBeMade before round.made
  pub cubes : AllZip (λ c part. FitsRoundCube round.from round.epoch c.0 c.1 part)
      (zip (before ++ round.made) (names ++ map no_names round.made)) round.cubes

-- Bytes begin with a round that may stand behind these cubes with these names, and a gate of any value.
pub record BeginsWithRound (digest : List ℕ → List ℕ) (before : List Decl) (names : List DimNames) (round : Round)
    (bytes : List ℕ) : Type 0 where
  pub fits : FitsRound before names round
  pub gate : ℕ
  pub rest : List ℕ
  pub whole : bytes ≡ round_bytes digest before round ++ gate ∷ rest
