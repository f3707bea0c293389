-- The cube whose rows a shard is filled with.
use Rattle.std.specs.Prelude.{◌≡◌, ℕ, ◌*◌, ◌<◌, ◌≤◌, false, [], ◌∷◌}
use Rattle.cube_values.specs.declared.shape.CubeShape.{CubeShape}
use Rattle.shard_cell.specs.Shards.{HasShapes, ShardState}
use Rattle.measured_shards.specs.declared.filled.FilledShard.TheInside.{Inside}

-- Eight coordinates, all of which lie in each brick, by a thousand for each brick; no texts, and a metric.
abbrev pub many_bricks : ℕ → CubeShape
many_bricks bricks =
    record {
      shape = record {
        sizes =
            record { cardinality = 8; range = 8 } ∷ record { cardinality = bricks * 1_000; range = 1_000 } ∷ [];
      };
      texts = false ∷ false ∷ [];
      metrics = 1;
    }

-- A shard, and how many bricks the cube has.
pub record CubeOnShard : Type 0 where
  pub shard : ShardState
  pub bricks : ℕ

-- The shape is that of the cube, and nothing of a cube of another shape came to the shard.
pub record IsOfManyBricks (s : Inside) : Type 0 where
  pub some : 0 < s.bricks
  pub few : s.bricks ≤ 1_000_000
  pub shape : s.shape ≡ many_bricks s.bricks
  pub own : HasShapes (λ cube. many_bricks s.bricks) s.shard
