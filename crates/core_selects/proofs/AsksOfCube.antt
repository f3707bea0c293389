-- A session may copy the names of a cube that it was told of, and ask for rows of it.
use Rattle.std.proofs.Common.{◌≡◌, ◌∙◌, ℕ, ◌<◌, true, List, length, sym, ap, subst}
use Rattle.std.proofs.lemmas.Bool.{false≢true}
use Rattle.std.proofs.lemmas.List.{length-map}
use Rattle.core_selects.specs.ReadLines.{IsBoundBy}
use Rattle.copied_names.specs.CopiedNames.{MayCopyCube}
use Rattle.core_events.specs.Clients.{calls_of, state_from_calls}
use Rattle.core_program.specs.CoreFits.{CoreEntry}
use Rattle.cube_core.specs.declared.cell.CoreCell.{CoreCell}
use Rattle.cube_language.specs.Cubes.{size_of}
use Rattle.cube_language.specs.declared.decl.Decl.{Decl}
use Rattle.cube_language.specs.declared.statement.Statement.{Statement}
use Rattle.cube_language.specs.declared.statement.Statement.TheVariants.{Select}
use Rattle.cube_run.specs.StatementEntries.{is_select}
use Rattle.cube_schema.specs.Schemas.{cube_of}
use Rattle.cube_values.specs.Queries.{IsSoundQuery}
use Rattle.cube_values.specs.Shapes.{IsSoundCube}
use Rattle.cube_values.specs.declared.query.BoundQuery.{BoundQuery}
use Rattle.cube_values.specs.declared.shape.CubeShape.{CubeShape}
use Rattle.known_cubes.proofs.ToldCubes.{knows-cube}
use Rattle.known_cubes.specs.KnownCubes.{IsToldOfCube}
use Rattle.linked_shards.specs.CellShards.{CoreShardStands}
use Rattle.linked_shards.specs.declared.cell.CoreShard.{CoreShard}
use Rattle.query_plan.specs.Bindings.{AsksRows}
use Rattle.scripted_pasts.specs.Served.{IsServed}
use Rattle.session_groups.specs.ShardGroups.{KnowsOfShards, MayQuery}
use Rattle.shard_events.specs.ShardsInRuns.{FitsShard, IsShapeInRun, ShardAnswerSays}

pub asks-rows : (s : Statement) → is_select s ≡ true → AsksRows s
asks-rows (Select items cube conds group having order limit) select = tt
asks-rows s select = absurd (false≢true select)

module _ (cells : List (CoreCell CoreShard)) (caller session shards : ℕ) (served : IsServed cells caller session shards)
    (own : List CoreEntry) (name : List ℕ) (place : ℕ) (d : Decl) (told : IsToldOfCube own name place d) where
  pub may-copy : MayCopyCube FitsShard CoreShardStands ShardAnswerSays cells caller own session place d
  may-copy = record {
    client = served.client;
    is_session = served.is_session;
    storable = served.storable;
    named = served.named;
    name = name;
    cube = told;
  }

  pub may-ask : (s : Statement) (names : List (List (List (List ℕ)))) (query : BoundQuery) (shape : CubeShape)
      → shape ≡ cube_of d → IsSoundCube shape → IsBoundBy place d s names query
      → KnowsOfShards cells caller session own (MayQuery session shape query)
  may-ask s names query shape same sound b o log run es later are =
      let known =
      knows-cube FitsShard CoreShardStands ShardAnswerSays cells caller session own name place d served.client
      served.storable told o log run es later are
      in
      let in_run : IsShapeInRun o place shape =
      record { place = known.below; sound = sound; same = same ∙ sym known.shape }
      in
      let asks = b.asks in
      let dims : length d.dims ≡ length shape.shape.sizes =
      sym (length-map d.dims size_of) ∙ sym (ap (λ (c : CubeShape). length c.shape.sizes) same)
      in
      let metrics : length d.metrics ≡ shape.metrics = sym (ap (λ (c : CubeShape). c.metrics) same) in
      record {
        fits = record {
          of_run = subst (λ (n : ℕ). IsShapeInRun o n shape) (sym b.place_is) in_run;
          sound = coe 0 1 (i. IsSoundQuery query (dims i) (metrics i)) asks.sound;
          parts = asks.parts;
        };
        there = subst (λ (n : ℕ). n < (state_from_calls o session (calls_of session es)).cubes) (sym b.place_is)
            known.there;
      }
