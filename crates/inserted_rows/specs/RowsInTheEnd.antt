-- The rows of an INSERT by coordinates, for whatever names the dictionaries may end with that go on from own calls.
-- Source: Cubrick (VLDB 2016), dictionary encoding of text dimensions.
use Rattle.std.specs.Prelude.{◌≡◌, ℕ, List, length, Some, All}
use Rattle.cube_language.specs.declared.decl.Decl.{Decl}
use Rattle.cube_run.specs.LoadedRows.{first_without_place}
use Rattle.cube_values.specs.Batches.{Batch}
use Rattle.cube_values.specs.declared.value.Value.{Value}
use Rattle.row_encoding.specs.CodedInserts.{HasCoords, HasNumbers, RowsStandFor}
use Rattle.row_encoding.specs.FinalCodes.{InTheEnd}
use Rattle.core_names.specs.KnownNumbers.{HasToldNumber}
use Rattle.core_names.specs.NamesInTheEnd.{MayLeaveNames}
use Rattle.core_program.specs.CoreFits.{CoreEntry}
use Rattle.cube_core.specs.declared.cell.CoreCell.{CoreCell}
use Rattle.known_cubes.specs.KnownCubes.{IsToldOfCube}
use Rattle.linked_shards.specs.CellShards.{CoreShardStands}
use Rattle.linked_shards.specs.declared.cell.CoreShard.{CoreShard}
use Rattle.shard_events.specs.ShardsInRuns.{FitsShard, ShardAnswerSays}
use Rattle.inserted_rows.specs.declared.encoding.EncodedRows.{EncodedRows}
use Rattle.inserted_rows.specs.declared.encoding.EncodedRows.TheVariants.{Rows, Lacking}

-- One of the own calls told of the cube at a place, by whatever name.
abbrev pub IsToldOfCubeAt : List CoreEntry → ℕ → Decl → Type 0
IsToldOfCubeAt own place d = (name : List ℕ) × IsToldOfCube own name place d

-- A batch of rows of a cube, by numbers that the own calls told.
pub record AreToldRows (own : List CoreEntry) (place : ℕ) (d : Decl) (batch : Batch) : Type 0 where
  pub dims : batch.dims ≡ length d.dims
  pub width : batch.width ≡ length d.metrics
  pub coords : All (HasCoords d) batch.rows
  pub numbers : All (HasNumbers (HasToldNumber own place) d) batch.rows

module _ (cells : List (CoreCell CoreShard)) (caller : ℕ) (own : List CoreEntry) where
  -- This holds of the names of the cube at a place, however a run ends in which the own calls begin with these.
  abbrev pub HoldsInTheEnd : ℕ → (List (List (List ℕ)) → Type 0) → Type 0
  HoldsInTheEnd place Holds =
      InTheEnd (MayLeaveNames FitsShard CoreShardStands ShardAnswerSays cells caller own) place Holds

  -- A batch of told rows stands for those of an INSERT in the end, each of whose texts then has a place.
  pub record IsBatchOfInsert (place : ℕ) (d : Decl) (given : List (List Value)) (batch : Batch) : Type 0 where
    pub told : AreToldRows own place d batch
    pub stand : HoldsInTheEnd place (λ lists. RowsStandFor d lists given batch.rows)

  -- It does, or this text is the first that finds no place.
  abbrev pub AreEncodedRows : ℕ → Decl → List (List Value) → EncodedRows → Type 0
  AreEncodedRows place d given (Rows batch) = IsBatchOfInsert place d given batch
  AreEncodedRows place d given (Lacking text) =
      HoldsInTheEnd place (λ lists. first_without_place d lists given ≡ Some text)
