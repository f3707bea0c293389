-- The cube and the query of the cases.
use Rattle.std.specs.Prelude.{ℕ, true, [], ◌∷◌}
use Rattle.cube_values.specs.declared.query.BoundItem.TheVariants.{Count}
use Rattle.cube_values.specs.declared.query.BoundQuery.{BoundQuery}
use Rattle.cube_values.specs.declared.shape.CubeShape.{CubeShape}
use Rattle.cube_values.specs.declared.span.Part.TheVariants.{All, Between}
use Rattle.cube_values.specs.declared.span.Span.{Span}
use Rattle.shard_cell.specs.Shards.{HasShapes, ShardState}

-- A cube of one dimension of two coordinates, each in a range of its own, and of one metric.
abbrev pub case_shape : CubeShape
case_shape = record {
  shape = record { sizes = record { cardinality = 2; range = 1 } ∷ [] };
  texts = true ∷ [];
  metrics = 1;
}

-- Each cube of the shard has this shape.
abbrev pub IsCaseShard : ShardState → Type 0
IsCaseShard shard = HasShapes (λ cube. case_shape) shard

-- The box of one coordinate.
abbrev pub box_of : ℕ → Span
box_of x = record { parts = Between x x ∷ [] }

-- COUNT of all rows.
abbrev pub count_all : BoundQuery
count_all = record { cube = 0; span = record { parts = All ∷ [] }; group = []; items = Count ∷ [] }
