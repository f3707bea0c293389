-- A box that every shard was asked to drop is one operation more.
use Rattle.std.proofs.Common.{◌≡◌, ◌∙◌, ℕ, ◌≤◌, List, [], ◌∷◌, length, sym, ap, subst}
use Rattle.std.specs.Prelude.{OnOk, Ok, Err, Result}
use Rattle.std.proofs.lemmas.List.{length-map}
use Rattle.condition_spans.specs.Spans.{CutNoBrick}
use Rattle.core_events.specs.Clients.{calls_of}
use Rattle.core_events.specs.Serial.{DropRows}
use Rattle.core_program.specs.CoreFits.{CoreEntry}
use Rattle.core_program.specs.Knowing.{IsClientOf}
use Rattle.cube_core.specs.declared.cell.CoreCell.{CoreCell}
use Rattle.cube_core.specs.declared.shard.ShardCall.TheVariants as call
use Rattle.cube_language.specs.Cubes.{size_of}
use Rattle.cube_language.specs.declared.decl.Decl.{Decl}
use Rattle.cube_schema.specs.Schemas.{cube_of}
use Rattle.cube_values.specs.Shapes.{IsSoundCube}
use Rattle.cube_values.specs.declared.shape.CubeShape.{CubeShape}
use Rattle.cube_values.specs.declared.snapshot.Snapshot.{Snapshot}
use Rattle.cube_values.specs.declared.span.Span.{Span}
use Rattle.known_cubes.proofs.ToldCubes.{knows-cube}
use Rattle.known_cubes.specs.KnownCubes.{OpenWithStorableCubes}
use Rattle.session_snapshots.specs.KnownHolds.{HoldsWriter}
use Rattle.linked_shards.specs.CellShards.{CoreShardStands}
use Rattle.shard_events.specs.ShardsInRuns.{FitsShard, ShardAnswerSays}
use Rattle.linked_shards.specs.declared.cell.CoreShard.{CoreShard}
use Rattle.posted_pasts.proofs.AddedCalls.{one-box}
use Rattle.posted_pasts.specs.PostsAdded.{AddsOperations, LearnsThat}
use Rattle.session_groups.proofs.AddedOperations.{drop-operations}
use Rattle.session_groups.specs.ShardGroups.{HasAskedAll, KnowsOfShards, MayDelete}
use Rattle.dropped_regions.specs.DeleteBoxes.{IsToldOfPlace, IsWholeBox}

module _ (cells : List (CoreCell CoreShard)) (caller session : ℕ) (own : List CoreEntry) (place : ℕ) where
  -- Shards may be asked to drop a whole box of a cube that the session was told of.
  pub may-delete : (d : Decl) (shape : CubeShape) (box : Span)
      → IsClientOf FitsShard CoreShardStands ShardAnswerSays cells caller session
      → OpenWithStorableCubes FitsShard CoreShardStands ShardAnswerSays cells → IsToldOfPlace own place d
      → IsWholeBox d box → shape ≡ cube_of d → IsSoundCube shape
      → KnowsOfShards cells caller session own (MayDelete session place shape box)
  may-delete d shape box acts storable told whole is sound = λ o log run es later are.
      let k =
      knows-cube FitsShard CoreShardStands ShardAnswerSays cells caller session own told.0 place d acts storable told.1
      o log run es later are
      in
      record {
        of_run = record { place = k.below; sound = sound; same = is ∙ sym k.shape };
        there = k.there;
        as_many =
            whole.parts ∙ sym (length-map d.dims size_of) ∙ sym (ap (λ (s : CubeShape). length s.shape.sizes) is);
        sound = whole.sound;
        whole = subst (λ (s : CubeShape). CutNoBrick s.shape.sizes box.parts) (sym is) whole.whole;
      }

  module _ (now : List CoreEntry) (shards : ℕ) (shape : CubeShape) (box : Span) (s : Snapshot) (some : 1 ≤ shards)
      (holds : HoldsWriter FitsShard CoreShardStands ShardAnswerSays cells caller session own s) where
    abbrev Asked : CubeShape → Type 0
    Asked sh = HasAskedAll cells caller session shards (call.DropBox place sh s.epoch box) own now

    abbrev Learns : Type 0
    Learns =
        LearnsThat FitsShard CoreShardStands ShardAnswerSays (AddsOperations place s.epoch (DropRows box ∷ [])) cells
        caller session own now

    one-operation : Asked shape → Learns
    one-operation asked o log run es later are =
        let h =
        drop-operations cells caller session shards own now place shape box s some holds asked o log run es later are
        in
        record {
          before = h.before;
          events = h.events;
          adds = one-box o session place s.epoch box (calls_of session h.before) (calls_of session es) h.once;
        }

    pub if-dropped : {T E : Type 0} (result : Result T E) → OnOk result (Asked shape) → OnOk result Learns
    if-dropped (Ok end) asked = one-operation asked
    if-dropped (Err e) asked = tt

    pub if-asked : {T E : Type 0} (result : Result T E) (d : Decl) → shape ≡ cube_of d → OnOk result (Asked shape)
        → OnOk result (Asked (cube_of d))
    if-asked (Ok end) d is asked = subst Asked is asked
    if-asked (Err e) d is asked = tt
