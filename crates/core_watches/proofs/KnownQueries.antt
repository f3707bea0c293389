-- A session may ask the queries of a cube that it was told of.
use Rattle.std.proofs.Common.{◌≡◌, ◌∙◌, ℕ, List, length, sym, ap, arith}
use Rattle.std.proofs.lemmas.List.{length-map}
use Rattle.core_program.specs.CoreFits.{CoreEntry}
use Rattle.core_program.specs.Knowing.{IsClientOf}
use Rattle.cube_core.specs.declared.cell.CoreCell.{CoreCell}
use Rattle.cube_language.specs.Cubes.{size_of}
use Rattle.cube_language.specs.declared.decl.Decl.{Decl}
use Rattle.cube_language.specs.declared.statement.Statement.{Statement}
use Rattle.cube_schema.specs.Schemas.{cube_of}
use Rattle.cube_values.specs.Queries.{IsSoundQuery}
use Rattle.cube_values.specs.Shapes.{IsSoundCube}
use Rattle.cube_values.specs.declared.query.BoundQuery.{BoundQuery}
use Rattle.cube_values.specs.declared.shape.CubeShape.{CubeShape}
use Rattle.known_cubes.proofs.ToldCubes.{knows-cube}
use Rattle.known_cubes.specs.KnownCubes.{IsToldOfCube, OpenWithStorableCubes}
use Rattle.linked_shards.specs.CellShards.{CoreShardStands}
use Rattle.linked_shards.specs.declared.cell.CoreShard.{CoreShard}
use Rattle.query_plan.specs.Bindings.{IsQueryOn}
use Rattle.session_groups.specs.ShardGroups.{KnowsOfShards, MayQuery}
use Rattle.shard_events.specs.ShardsInRuns.{FitsShard, ShardAnswerSays}

pub may-query : (cells : List (CoreCell CoreShard)) (caller session place : ℕ) (own : List CoreEntry) (name : List ℕ) (d : Decl)
    (names : List (List (List (List ℕ)))) (s : Statement) (shape : CubeShape) (query : BoundQuery)
    → IsClientOf FitsShard CoreShardStands ShardAnswerSays cells caller session
    → OpenWithStorableCubes FitsShard CoreShardStands ShardAnswerSays cells → IsToldOfCube own name place d
    → shape ≡ cube_of d → IsSoundCube shape → query.cube ≡ place → IsQueryOn d names s query
    → KnowsOfShards cells caller session own (MayQuery session shape query)
may-query cells caller session place own name d names s shape query acts storable told is sound at asks o log run es later
    are =
    let k = knows-cube FitsShard CoreShardStands ShardAnswerSays cells caller session own name place d acts storable told o
    log run es later are
    in
    let below = k.below in
    let there = k.there in
    record {
      fits = record {
        of_run = record {
          place = omega (arith, below, at);
          sound = sound;
          same = is ∙ sym k.shape ∙ ap o.shapes (sym at);
        };
        sound = coe 1 0 (i. IsSoundQuery query (((ap (λ (c : CubeShape). length c.shape.sizes) is) ∙ length-map d.dims size_of) i)
            ((ap (λ (c : CubeShape). c.metrics) is) i)) asks.sound;
        parts = asks.parts;
      };
      there = omega (arith, there, at);
    }
