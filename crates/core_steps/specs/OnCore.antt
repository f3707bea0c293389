-- Sessions on an opened core: what stands of one whatever it holds, and that it knows a cube and the number of a name.
-- Source: this project's own.
use Rattle.std.specs.Prelude.{ℕ, ◌+◌, List, IfSome}
use Rattle.cube_values.specs.declared.shape.CubeShape.{CubeShape}
use Rattle.cube_language.specs.declared.decl.Decl.{Decl}
use Rattle.names_dict.specs.Dictionaries.{IsTextDimension}
use Rattle.names_dict.specs.declared.code.Code.{Code}
use Rattle.core_program.specs.Knowing.{IsClientOf, IsMailAt, IsSessionOf, ServesClient}
use Rattle.core_events.specs.Clients.{number_by_code}
use Rattle.core_program.specs.CoreFits.{CoreEntry}
use Rattle.cube_core.specs.declared.cell.CoreCell.{CoreCell}
use Rattle.job_groups.specs.AskedEach.{AreShardMails}
use Rattle.known_cubes.specs.KnownCubes.{IsToldOfCube, OpenWithStorableCubes}
use Rattle.known_cubes.specs.KnownNames.{IsToldOfName}
use Rattle.linked_shards.specs.CellShards.{CoreShardStands}
use Rattle.linked_shards.specs.declared.cell.CoreShard.{CoreShard}
use Rattle.shard_events.specs.ShardsInRuns.{FitsShard, ShardAnswerSays}

-- A session calls the cells of a core of so many shards by the number of a caller. The mails of the shards serve it, and
-- so does that of the flusher.
pub record IsOnCore (shards : ℕ) (cells : List (CoreCell CoreShard)) (caller session : ℕ) : Type 0 where
  pub client : IsClientOf FitsShard CoreShardStands ShardAnswerSays cells caller session
  pub by_number : IsSessionOf FitsShard CoreShardStands ShardAnswerSays cells session
  pub mails : AreShardMails FitsShard CoreShardStands ShardAnswerSays cells session shards (2 + shards)
  pub flush_mail : IsMailAt FitsShard CoreShardStands ShardAnswerSays cells shards (2 + shards + shards)
  pub flush_serves : ServesClient FitsShard CoreShardStands ShardAnswerSays cells session shards
  pub storable : OpenWithStorableCubes FitsShard CoreShardStands ShardAnswerSays cells

-- It was told of the cube at a place.
pub record KnowsCubeOnCore (shards place : ℕ) (decl : Decl) (cells : List (CoreCell CoreShard)) (caller session : ℕ)
    (own : List CoreEntry) : Type 0 where
  pub on_core : IsOnCore shards cells caller session
  pub name : List ℕ
  pub told : IsToldOfCube own name place decl

-- It was told that a name of the cube's first dimension has the number, and that it has that of the code, if any.
pub record IsToldOfNumber (own : List CoreEntry) (place number : ℕ) : Type 0 where
  pub name : List ℕ
  pub told : IsToldOfName own place 0 name number

abbrev pub IsToldOfCode : List CoreEntry → ℕ → Code → Type 0
IsToldOfCode own place code = IfSome (number_by_code code) (λ number. IsToldOfNumber own place number)

-- No dimension of the cube has texts.
abbrev pub HasNoTexts : CubeShape → Type 0
HasNoTexts shape = (dim : ℕ) → IsTextDimension shape dim → ⊥
