-- What a session has to know before it puts told rows.
use Rattle.std.proofs.Common.{◌≡◌, ◌∙◌, ℕ, ◌+◌, ◌≤◌, List, get_or, All, sym, ap, subst, arith}
use mathlib.Core.List.{IsPrefix}
use Rattle.brick_address.specs.Addresses.{AreCoords}
use Rattle.brick_map.specs.Batches.{IsRowOfCube}
use Rattle.core_names.proofs.HeldOn.{rows-told}
use Rattle.core_program.specs.CoreFits.{CoreEntry}
use Rattle.core_program.specs.Knowing.{IsClientOf, Knows}
use Rattle.cube_core.specs.declared.cell.CoreCell.{CoreCell}
use Rattle.cube_language.specs.declared.decl.Decl.{Decl}
use Rattle.cube_schema.specs.Schemas.{cube_of}
use Rattle.cube_values.specs.Batches.{Batch, HasWidths}
use Rattle.cube_values.specs.Shapes.{IsSoundCube}
use Rattle.cube_values.specs.declared.shape.CubeShape.{CubeShape}
use Rattle.inserted_rows.specs.RowsInTheEnd.{AreToldRows, IsToldOfCubeAt}
use Rattle.job_groups.specs.AskedEach.{AreShardMails, HasMore}
use Rattle.known_cubes.proofs.ToldCubes.{knows-cube}
use Rattle.known_cubes.specs.KnownCubes.{OpenWithStorableCubes}
use Rattle.linked_shards.specs.CellShards.{CoreShardStands}
use Rattle.linked_shards.specs.declared.cell.CoreShard.{CoreShard}
use Rattle.session_batches.specs.PutRows.{MayPutRows}
use Rattle.shard_events.specs.ShardsInRuns.{FitsShard, ShardAnswerSays}

pub may_put : (cells : List (CoreCell CoreShard)) (caller session shards place : ℕ) (own : List CoreEntry) (d : Decl)
    (shape : CubeShape) (batch : Batch) → 1 ≤ shards
    → IsClientOf FitsShard CoreShardStands ShardAnswerSays cells caller session
    → AreShardMails FitsShard CoreShardStands ShardAnswerSays cells session shards (2 + shards)
    → OpenWithStorableCubes FitsShard CoreShardStands ShardAnswerSays cells → IsToldOfCubeAt own place d
    → shape ≡ cube_of d → IsSoundCube shape → AreToldRows own place d batch
    → Knows FitsShard CoreShardStands ShardAnswerSays cells caller session own
    (MayPutRows session shards place shape batch.rows)
may_put cells caller session shards place own d shape batch some acts mails storable told same sound rows o log run es
    later events =
    let known =
    knows-cube FitsShard CoreShardStands ShardAnswerSays cells caller session own told.0 place d acts storable told.1 o
    log run es later events
    in
    let is = (mails.each 0 some).cell_is o log later.opens in
    record {
      of_core = omega (arith, is);
      there = known.there;
      of_run = record { place = known.below; sound = sound; same = same ∙ sym known.shape };
      names =
          rows-told FitsShard CoreShardStands ShardAnswerSays cells caller session acts storable own told.0 place d
          told.1 batch.rows rows.numbers o log run es later events;
    }

-- A row with the coordinates and the number of metrics of a cube is one of its rows.
pub rows_of_its_cube : (own : List CoreEntry) (place : ℕ) (d : Decl) (shape : CubeShape) (batch : Batch)
    → shape ≡ cube_of d → AreToldRows own place d batch → All (HasWidths batch.dims batch.width) batch.rows
    → All (IsRowOfCube shape) batch.rows
rows_of_its_cube own place d shape batch same rows widths k e l = record {
  coords = subst (λ (sh : CubeShape). AreCoords sh.shape.sizes (get_or batch.rows k e).coords) (sym same)
      (rows.coords k e l);
  metrics = (widths k e l).metrics ∙ rows.width ∙ sym (ap (λ (sh : CubeShape). sh.metrics) same);
}

pub more_is_prefix : (own now : List CoreEntry) → HasMore own now → IsPrefix own now
more_is_prefix own now more = (more.more, sym more.whole)
