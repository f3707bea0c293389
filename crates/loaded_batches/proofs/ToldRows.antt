-- Rows of a cube that a session was told of may be put.
use Rattle.std.proofs.Common.{◌≡◌, ◌∙◌, ℕ, ◌+◌, ◌≤◌, List, ◌++◌, All, length, sym, subst, arith}
use mathlib.Core.List.{IsPrefix}
use Rattle.brick_map.specs.Batches.{IsRowOfCube}
use Rattle.core_names.specs.CoreEncoders.{MayAskForCodes}
use Rattle.core_names.specs.KnownNumbers.{HasToldNumber, TextsByDim}
use Rattle.core_names.proofs.GivenCodes.{still-told}
use Rattle.core_names.proofs.HeldOn.{rows-told}
use Rattle.core_program.specs.CoreFits.{CoreEntry}
use Rattle.core_program.specs.Knowing.{Knows}
use Rattle.cube_core.specs.declared.cell.CoreCell.{CoreCell}
use Rattle.cube_language.specs.declared.decl.Decl.{Decl}
use Rattle.cube_schema.specs.Schemas.{cube_of}
use Rattle.cube_values.specs.Batches.{HasWidths}
use Rattle.cube_values.specs.Shapes.{IsSoundCube}
use Rattle.cube_values.specs.declared.row.CodedRow.{CodedRow}
use Rattle.cube_values.specs.declared.shape.CubeShape.{CubeShape}
use Rattle.job_groups.specs.AskedEach.{AreShardMails}
use Rattle.known_cubes.proofs.ToldCubes.{knows-cube, told-later}
use Rattle.known_cubes.proofs.ToldNames.{told-later as number-later}
use Rattle.std.proofs.lemmas.List.Elements.{All-weaker}
use Rattle.linked_shards.specs.CellShards.{CoreShardStands}
use Rattle.shard_events.specs.ShardsInRuns.{FitsShard, ShardAnswerSays}
use Rattle.linked_shards.specs.declared.cell.CoreShard.{CoreShard}
use Rattle.row_encoding.specs.CodedInserts.{HasCoords, HasNumbers}
use Rattle.session_batches.specs.PutRows.{MayPutRows}
use Rattle.loaded_batches.specs.LoadFronts.{MayPutInto}

pub may-put : (cells : List (CoreCell CoreShard)) (caller session shards place : ℕ) (own : List CoreEntry) (d : Decl)
    (shape : CubeShape) (rows : List CodedRow) → 1 ≤ shards
    → AreShardMails FitsShard CoreShardStands ShardAnswerSays cells session shards (2 + shards)
    → MayPutInto cells caller session own place d → shape ≡ cube_of d → IsSoundCube shape
    → All (HasNumbers (HasToldNumber own place) d) rows
    → Knows FitsShard CoreShardStands ShardAnswerSays cells caller session own
    (MayPutRows session shards place shape rows)
may-put cells caller session shards place own d shape rows some mails into same sound numbers o log run es later are =
    let known =
    knows-cube FitsShard CoreShardStands ShardAnswerSays cells caller session own into.name place d into.client
    into.storable into.cube o log run es later are
    in
    let is = (mails.each 0 some).cell_is o log later.opens in
    record {
      of_core = omega (arith, is);
      there = known.there;
      of_run = record { place = known.below; sound = sound; same = same ∙ sym known.shape };
      names =
          rows-told FitsShard CoreShardStands ShardAnswerSays cells caller session into.client into.storable own
          into.name place d into.cube rows numbers o log run es later are;
    }

sizes-are : (d : Decl) (shape : CubeShape) → shape ≡ cube_of d → (row : CodedRow) → HasCoords d row
    → length row.metrics ≡ length d.metrics → IsRowOfCube shape row
sizes-are d shape same row coords metrics =
    subst (λ (s : CubeShape). IsRowOfCube s row) (sym same) (record { coords = coords; metrics = metrics })

pub rows-of-cube : (d : Decl) (shape : CubeShape) (dims width : ℕ) (rows : List CodedRow) → shape ≡ cube_of d
    → width ≡ length d.metrics → All (HasWidths dims width) rows → All (HasCoords d) rows
    → All (IsRowOfCube shape) rows
rows-of-cube d shape dims width rows same wide widths coords = λ i row low.
    sizes-are d shape same _ (coords i row low) ((widths i row low).metrics ∙ wide)

-- Who may ask for the codes of a cube's texts was told of it.
pub may-put-into : (cells : List (CoreCell CoreShard)) (caller session place : ℕ) (own : List CoreEntry) (d : Decl)
    (known : TextsByDim)
    → MayAskForCodes FitsShard CoreShardStands ShardAnswerSays cells caller own session known place d
    → MayPutInto cells caller session own place d
may-put-into cells caller session place own d known may = record {
  client = may.client;
  is_session = may.is_session;
  storable = may.storable;
  name = may.name;
  cube = may.cube;
}

-- So it is with more calls.
pub may-ask-still : (cells : List (CoreCell CoreShard)) (caller session place : ℕ) (own now : List CoreEntry) (d : Decl)
    (known : TextsByDim) → IsPrefix own now
    → MayAskForCodes FitsShard CoreShardStands ShardAnswerSays cells caller own session known place d
    → MayAskForCodes FitsShard CoreShardStands ShardAnswerSays cells caller now session known place d
may-ask-still cells caller session place own now d known more may =
    subst (λ (l : List CoreEntry).
    MayAskForCodes FitsShard CoreShardStands ShardAnswerSays cells caller l session known place d) more.1
    (record {
      client = may.client;
      is_session = may.is_session;
      storable = may.storable;
      named = may.named;
      name = may.name;
      cube = told-later own more.0 may.name place d may.cube;
      long = may.long;
      right = still-told own more.0 place d.dims known may.right;
    })

-- The numbers that its rows have were told it still.
pub numbers-still : (place : ℕ) (own now : List CoreEntry) (d : Decl) (rows : List CodedRow) → IsPrefix own now
    → All (HasNumbers (HasToldNumber own place) d) rows → All (HasNumbers (HasToldNumber now place) d) rows
numbers-still place own now d rows more told =
    subst (λ (l : List CoreEntry). All (HasNumbers (HasToldNumber l place) d) rows) more.1
    (All-weaker (HasNumbers (HasToldNumber own place) d) (HasNumbers (HasToldNumber (own ++ more.0) place) d)
    (λ row numbers dim coord is at.
    let h = numbers dim coord is at in
    record { name = h.name; told = number-later own more.0 place dim h.name coord h.told }) rows told)
