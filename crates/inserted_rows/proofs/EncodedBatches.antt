-- What comes of rows that a session's caller encoded, and of the texts that are known.
use Rattle.std.proofs.Common.{◌≡◌, ◌∙◌, ℕ, List, length, set, Option, Some, None, IfNone, All, ap, subst}
use Rattle.core_names.specs.AskedNames.{GoOnByNames}
use Rattle.core_names.specs.CoreEncoders.{MayAskForCodes}
use Rattle.core_names.specs.KnownNumbers.{AreNumbersTold, HasToldNumber, TextsByDim}
use Rattle.core_names.specs.NamesInTheEnd.{OpenWithNames}
use Rattle.core_program.specs.CoreFits.{CoreEntry}
use Rattle.core_program.specs.Knowing.{IsClientOf, IsSessionOf}
use Rattle.cube_core.specs.declared.cell.CoreCell.{CoreCell}
use Rattle.cube_language.specs.declared.decl.Decl.{Decl}
use Rattle.cube_language.specs.declared.decl.DimDecl.{DimDecl}
use Rattle.cube_run.specs.LoadedRows.{first_without_place}
use Rattle.cube_values.specs.Batches.{Batch}
use Rattle.cube_values.specs.declared.value.Value.{Value}
use Rattle.inserted_rows.specs.RowsInTheEnd.{HoldsInTheEnd, IsBatchOfInsert, IsToldOfCubeAt}
use Rattle.inserted_rows.proofs.TextsOn.{names_go_on}
use Rattle.known_cubes.specs.KnownCubes.{OpenWithStorableCubes}
use Rattle.linked_shards.specs.CellShards.{CoreShardStands}
use Rattle.linked_shards.specs.declared.cell.CoreShard.{CoreShard}
use Rattle.row_encoding.specs.CodedInserts.{AreCodedRows, HasCoords, HasNumbers}
use Rattle.session_texts.proofs.KeptTexts.{texts-later, told_with}
use Rattle.session_texts.specs.ToldTexts.{AreCubeTextsTold, AreOfDimensions, AreTextsTold, KeptTexts, cardinalities}
use Rattle.session_texts.specs.declared.texts.TextsOfCube.{TextsOfCube}
use Rattle.shard_events.specs.ShardsInRuns.{FitsShard, ShardAnswerSays}

module _ (cells : List (CoreCell CoreShard)) (caller : ℕ) (own : List CoreEntry) (place : ℕ) (d : Decl)
    (given : List (List Value)) (batch : Batch) (lacking : Option (List ℕ)) where
  abbrev pub AreCodedInTheEnd : Option (List ℕ) → Type 0
  AreCodedInTheEnd o = HoldsInTheEnd cells caller own place (λ lists. AreCodedRows d lists given batch.rows o)

  pub batch-for : lacking ≡ None → batch.dims ≡ length d.dims → batch.width ≡ length d.metrics
      → IfNone lacking (All (HasCoords d) batch.rows)
      → IfNone lacking (All (HasNumbers (HasToldNumber own place) d) batch.rows) → AreCodedInTheEnd lacking
      → IsBatchOfInsert cells caller own place d given batch
  batch-for none dims width inside told stand = record {
    told = record {
      dims = dims;
      width = width;
      coords = subst (λ (o : Option (List ℕ)). IfNone o (All (HasCoords d) batch.rows)) none inside;
      numbers = subst (λ (o : Option (List ℕ)). IfNone o (All (HasNumbers (HasToldNumber own place) d) batch.rows)) none
          told;
    };
    stand = subst AreCodedInTheEnd none stand;
  }

  pub lacking-for : (text : List ℕ) → lacking ≡ Some text → AreCodedInTheEnd lacking
      → HoldsInTheEnd cells caller own place (λ lists. first_without_place d lists given ≡ Some text)
  lacking-for text some stand = subst AreCodedInTheEnd some stand

pub may-ask : (cells : List (CoreCell CoreShard)) (caller session place : ℕ) (own : List CoreEntry) (d : Decl)
    (dims : List DimDecl) (known : TextsByDim)
    → IsClientOf FitsShard CoreShardStands ShardAnswerSays cells caller session
    → IsSessionOf FitsShard CoreShardStands ShardAnswerSays cells session
    → OpenWithStorableCubes FitsShard CoreShardStands ShardAnswerSays cells
    → OpenWithNames FitsShard CoreShardStands ShardAnswerSays cells → IsToldOfCubeAt own place d
    → AreCubeTextsTold own place dims known → dims ≡ d.dims
    → MayAskForCodes FitsShard CoreShardStands ShardAnswerSays cells caller own session known place d
may-ask cells caller session place own d dims known client is_session storable named told texts same =
    let its = subst (λ (ds : List DimDecl). AreCubeTextsTold own place ds known) same texts in
    record {
      client = client;
      is_session = is_session;
      storable = storable;
      named = named;
      name = told.0;
      cube = told.1;
      long = its.long;
      right = its.right;
    }

-- Texts are told where those of a cube were taken, more of them were learned, and they are put back.
pub put-back-told : (caller place : ℕ) (own now : List CoreEntry) (cubes after : KeptTexts) (cube : TextsOfCube)
    (dims its : List DimDecl) → after ≡ record cubes { cubes = set cubes.cubes place (Some cube) } → GoOnByNames caller own now
    → AreTextsTold own cubes → AreOfDimensions dims cube → length cube.texts ≡ length its
    → AreNumbersTold now place its cube.texts → dims ≡ its → AreTextsTold now after
put-back-told caller place own now cubes after cube dims its is asks told sizes long right same =
    told_with now cubes after place cube its is (texts-later own now cubes (names_go_on caller own now asks) told)
    (sizes ∙ ap cardinalities same) (record { long = long; right = right })
