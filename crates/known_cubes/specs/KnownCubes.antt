-- What a client knows of a cube that the desk told it of.
-- Source: this project's own.
use Rattle.std.specs.Prelude.{◌≡◌, ℕ, ◌+◌, ◌%◌, ◌<◌, List, ◌++◌, length, slice_get, Some, All, Contains}
use Rattle.cube_values.specs.declared.row.CodedRow.{CodedRow}
use Rattle.cube_language.specs.Cubes.{IsStorable, sizes_of}
use Rattle.cube_language.specs.CubesText.{cubes_limit}
use Rattle.cube_language.specs.declared.decl.Decl.{Decl}
use Rattle.cube_schema.specs.Schemas.{cube_of}
use Rattle.brick_address.specs.Addresses.{AreCoords, brick_of}
use Rattle.aosi_desk.specs.declared.cube.CubeAnswer.TheVariants.{Created}
use Rattle.aosi_desk.specs.declared.cube.CubeFound.TheVariants.{Found}
use Rattle.names_dict.specs.Dictionaries.{IsTextDimension}
use Rattle.core_cells.specs.declared.desk.DeskAnswer.TheVariants as said
use Rattle.core_cells.specs.declared.desk.DeskCall.TheVariants as asked
use Rattle.core_program.specs.Knowing.{Claim}
use Rattle.core_events.specs.Clients.{ClientState, state_from_calls}
use Rattle.core_events.specs.Events.{Opening}
use Rattle.core_events.specs.Fitting.{CanBeMade}
use Rattle.core_events.specs.Jobs.{CoreJob, JobOutcome}
use Rattle.core_events.specs.ShardView.{ShardView}
use Rattle.core_program.specs.CoreFits.{CoreEntry, OpensCells}
use Rattle.cube_core.specs.declared.cell.CoreAnswer.{CoreAnswer}
use Rattle.cube_core.specs.declared.cell.CoreAnswer.TheVariants as answer
use Rattle.cube_core.specs.declared.cell.CoreCall.{CoreCall}
use Rattle.cube_core.specs.declared.cell.CoreCall.TheVariants as call
use Rattle.cube_core.specs.declared.cell.CoreCell.{CoreCell}
use Rattle.cube_core.specs.declared.shard.ShardAnswer.{ShardAnswer}
use Rattle.cube_core.specs.declared.shard.ShardCall.{ShardCall}

-- The desk's answer to a call tells of the cube of a name, its place and its declaration: of one that it found, made or
-- listed.
pub data TellsOfCube (name : List ℕ) (place : ℕ) (decl : Decl) : CoreCall → CoreAnswer → Type 0 where
  by_search : (session statement : ℕ)
      → TellsOfCube name place decl (call.Desk (asked.FindCube session statement name))
      (answer.Desk (said.Found (Found place decl)))
  by_making : (session statement epoch : ℕ) → decl.name ≡ name
      → TellsOfCube name place decl (call.Desk (asked.CreateCube session statement decl))
      (answer.Desk (said.Created (Created epoch place)))
  by_listing : (from n : ℕ) (cubes : List Decl) → from + n ≡ place → slice_get cubes n ≡ Some decl → decl.name ≡ name
      → TellsOfCube name place decl (call.Desk (asked.CubesFrom from)) (answer.Desk (said.Cubes cubes))

-- One of a client's own calls told it of the cube.
pub record IsToldOfCube (own : List CoreEntry) (name : List ℕ) (place : ℕ) (decl : Decl) : Type 0 where
  pub entry : CoreEntry
  pub among : Contains own entry
  pub tells : TellsOfCube name place decl entry.call entry.answer

-- A client knows the cube at a place: its declaration can be stored and gives its shape, and the client's calls may
-- name the place.
pub record KnowsCube (o : Opening) (place : ℕ) (decl : Decl) (k : ClientState) : Type 0 where
  pub storable : IsStorable decl
  pub shape : o.shapes place ≡ cube_of decl
  pub below : place < cubes_limit
  pub there : place < k.cubes

-- The cubes are the first ones and then such as can be made.
pub record AreMadeAfter (first cubes : List Decl) : Type 0 where
  pub made : List Decl
  pub are : cubes ≡ first ++ made
  pub each : All CanBeMade made

-- It knows it by its calls.
abbrev pub CallsTellCube : ℕ → ℕ → Decl → Claim
CallsTellCube client place decl o calls = KnowsCube o place decl (state_from_calls o client calls)

-- A row of the cube of a declaration, of a shard, in which texts are numbers of names that the client was told of.
pub record IsRowToPut (decl : Decl) (place shards shard : ℕ) (k : ClientState) (row : CodedRow) : Type 0 where
  pub coords : AreCoords (sizes_of decl.dims) row.coords
  pub of_shard : brick_of (sizes_of decl.dims) row.coords % shards ≡ shard
  pub metrics : length row.metrics ≡ length decl.metrics
  pub names : (dim coord : ℕ) → IsTextDimension (cube_of decl) dim → slice_get row.coords dim ≡ Some coord
      → coord < k.names place dim

module _ {S : Type 0} (fits : Opening → ℕ → ShardCall → Type 0) (stands : Opening → ℕ → ℕ → S → ShardView → Type 0)
    (says : CoreJob → ShardAnswer → JobOutcome → Type 0) where
  -- The cubes with which a run opens can be stored, in whatever way it opens with the cells.
  abbrev pub OpenWithStorableCubes : List (CoreCell S) → Type 0
  OpenWithStorableCubes cells =
      (o : Opening) (log : List CoreEntry) → OpensCells fits stands says o cells log → All IsStorable o.cubes
