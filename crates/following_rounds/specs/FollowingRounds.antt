-- A round of what was copied in a run of the core, behind what a store keeps of the run.
-- Source: Cubrick (VLDB 2016), bricks and dictionary encoding; AOSI (ICDE 2018), flush rounds. That rows are copied
-- before cubes and names is this project's own.
use mathlib.Core.List.{IsPrefix}
use Rattle.std.specs.Prelude.{◌≡◌, ◌≢◌, ℕ, ◌<◌, ◌≤◌, ◌^◌, true, List, [], ◌++◌, length, map, drop, slice_get, Some, None, All, IsUtf8, FitsSigned, MatchBool}
use Rattle.std.specs.Int.{w64}
use Rattle.std.specs.List.{zip, AllByRecursion}
use Rattle.cube_values.specs.declared.row.CodedRow.{CodedRow}
use Rattle.cube_values.specs.EpochsVector.{IsVector}
use Rattle.cube_language.specs.declared.decl.Decl.{Decl}
use Rattle.cube_language.specs.declared.decl.DimDecl.{DimDecl}
use Rattle.cube_language.specs.Cubes.{first_repeated}
use Rattle.cube_schema.specs.Schemas.{cube_of}
use Rattle.cube_rounds.specs.declared.round.Round.{Round}
use Rattle.cube_rounds.specs.declared.round.RoundCube.{RoundCube}
use Rattle.cube_rounds.specs.Bricks.{BrickPart}
use Rattle.cube_rounds.specs.Demands.{AreRising, DimNames, HaveDims, no_names}
use Rattle.aosi_desk.specs.Desks.{decl_names}
use Rattle.core_events.specs.Cells.{desk_of, dictionary_of}
use Rattle.core_events.specs.Clients.{client_state}
use Rattle.core_events.specs.Events.{Opening, CoreEvent}
use Rattle.core_events.specs.Fitting.{CanBeMade}
use Rattle.core_events.specs.ShardView.{ShardView}
use Rattle.core_serial.specs.Copies.{HasCopied, copies_by}
use Rattle.core_records.specs.OpeningNames.{OpensWithNames}
use Rattle.copied_rows.specs.CopiedRows.{KeptAreCubeRows}
use Rattle.shard_views.specs.Views.{part_view}

-- A run opens with cubes that can be made, named apart, and with rows of them. Each of the cubes in the end has the
-- shape of its declaration, and dictionaries that suit it.
pub record OpensForRounds (o : Opening) (cubes : List Decl) : Type 0 where
  pub made : All CanBeMade o.cubes
  pub apart : first_repeated (decl_names o.cubes) ≡ None
  pub shapes : (cube : ℕ) (d : Decl) → slice_get cubes cube ≡ Some d → o.shapes cube ≡ cube_of d
  pub names : OpensWithNames o cubes
  pub rows : KeptAreCubeRows o

-- What a store keeps is there after events: the first of the desk's cubes, and the first names of each dictionary.
pub record IsKeptAfter (o : Opening) (es : List CoreEvent) (cubes : List Decl) (names : List DimNames) : Type 0 where
  pub first_cubes : IsPrefix cubes (desk_of o es).cubes
  pub dims : HaveDims cubes names
  pub first_names : (cube dim : ℕ) (lists : DimNames) (list : List (List ℕ)) → slice_get names cube ≡ Some lists
      → slice_get lists dim ≡ Some list → IsPrefix list (dictionary_of o cube dim es).names

-- At some moment of a run, from one on, this holds.
pub record HoldsSince (moment run : List CoreEvent) (Holds : List CoreEvent → Type 0) : Type 0 where
  pub since : List CoreEvent
  pub later : List CoreEvent
  pub of_run : run ≡ later ++ (since ++ moment)
  pub holds : Holds (since ++ moment)

-- What a round has of a brick is what was copied: some entries, which are a vector over the rows.
pub record IsCopiedPart (copies : ShardView) (cube : ℕ) (part : BrickPart) : Type 0 where
  pub some : part.entries ≢ []
  pub vector : IsVector part.entries (length part.rows)
  pub same : part_view part ≡ copies cube part.brick

-- A cube of this declaration has a list of names for each dimension, behind an earlier one. Of texts the two have no
-- fewer names than there were after events.
pub record HasNamesFor (o : Opening) (es : List CoreEvent) (cube : ℕ) (decl : Decl) (earlier names : DimNames)
    : Type 0 where
  pub shape : o.shapes cube ≡ cube_of decl
  pub before : length earlier ≡ length decl.dims
  pub behind : length names ≡ length decl.dims
  pub have : (dim : ℕ) (d : DimDecl) (first more : List (List ℕ)) → slice_get decl.dims dim ≡ Some d
      → d.text ≡ true → slice_get earlier dim ≡ Some first → slice_get names dim ≡ Some more
      → length (dictionary_of o cube dim es).names ≤ length (first ++ more)

module _ (o : Opening) (copied run : List CoreEvent) where
  -- The names of a dimension behind earlier ones: of texts those of its dictionary at some moment since the copies, of
  -- numbers none.
  abbrev pub AreNamesSince : ℕ → ℕ → DimDecl → List (List ℕ) → List (List ℕ) → Type 0
  AreNamesSince cube dim d earlier names =
      MatchBool d.text
      (HoldsSince copied run (λ es. names ≡ drop (length earlier) (dictionary_of o cube dim es).names))
      (names ≡ [])

  -- What a round has of a cube with these names: what was copied of its bricks, and the names of each dimension.
  pub record IsCopiedCube (copies : ShardView) (cube : ℕ) (decl : Decl) (earlier : DimNames) (part : RoundCube)
      : Type 0 where
    pub dims : length part.names ≡ length decl.dims
    pub each : (dim : ℕ) (d : DimDecl) (first names : List (List ℕ)) → slice_get decl.dims dim ≡ Some d
        → slice_get earlier dim ≡ Some first → slice_get part.names dim ≡ Some names
        → AreNamesSince cube dim d first names
    pub bricks : AllByRecursion (IsCopiedPart copies cube) part.bricks
    pub rising : AreRising 0 part.bricks

  -- A round behind these cubes with these names: what all shards have answered the client, the desk's other cubes at
  -- some moment since, and what was copied of each cube.
  pub record IsRoundOfRun (client : ℕ) (cubes : List Decl) (names : List DimNames) (round : Round) : Type 0 where
    pub rows : HasCopied o.shards round.from round.epoch (client_state o client copied).group
    pub made : HoldsSince copied run (λ es. round.made ≡ drop (length cubes) (desk_of o es).cubes)
    pub parts : length round.cubes ≡ length (cubes ++ round.made)
    pub each : (cube : ℕ) (c : Decl × DimNames) (part : RoundCube)
        → slice_get (zip (cubes ++ round.made) (names ++ map no_names round.made)) cube ≡ Some c
        → slice_get round.cubes cube ≡ Some part
        → IsCopiedCube (copies_by o (client_state o client copied).group.answers) cube c.0 c.1 part

-- A store has four bytes for a coordinate, and eight for a number.
pub record HasStorableValues (row : CodedRow) : Type 0 where
  pub coords : AllByRecursion (λ coord. coord < 2 ^ 32) row.coords
  pub metrics : AllByRecursion (FitsSigned w64) row.metrics

-- A round has an epoch, names and rows that a store has bytes for.
pub record IsStorableRound (round : Round) : Type 0 where
  pub small : round.epoch < 2 ^ 63
  pub names : AllByRecursion (λ (part : RoundCube). AllByRecursion (AllByRecursion IsUtf8) part.names) round.cubes
  pub rows : AllByRecursion (λ (part : RoundCube).
      AllByRecursion (λ (b : BrickPart). AllByRecursion HasStorableValues b.rows) part.bricks) round.cubes
