-- The cubes of the drawn lists.
use Rattle.std.specs.Prelude.{ℕ, ◌⊎◌, ◌==◌, false, List, [], ◌∷◌, if◌then◌else◌}
use Rattle.cube_values.specs.declared.shape.CubeShape.{CubeShape}
use Rattle.cube_values.specs.declared.shape.Size.{Size}
use Rattle.cube_values.specs.declared.span.Part.{Part}
use Rattle.brick_address.specs.Covers.{HasAll, HasNone}
use Rattle.shard_cell.specs.Shards.{HasShapes, ShardState}

-- The first cube has five coordinates in ranges of two by seven in ranges of three, so that both last ranges are short;
-- each other one has four, each in a range of its own, by ten in ranges of four.
abbrev pub sizes_at : ℕ → List Size
sizes_at cube =
    if cube == 0 then record { cardinality = 5; range = 2 } ∷ record { cardinality = 7; range = 3 } ∷ []
    else record { cardinality = 4; range = 1 } ∷ record { cardinality = 10; range = 4 } ∷ []

abbrev pub metrics_at : ℕ → ℕ
metrics_at cube = if cube == 0 then 1 else 2

-- The shape of the cube at a place.
abbrev pub shape_at : ℕ → CubeShape
shape_at cube =
    record { shape = record { sizes = sizes_at cube }; texts = false ∷ false ∷ []; metrics = metrics_at cube }

-- Each cube of the shard has its shape.
abbrev pub HasTwoShapes : ShardState → Type 0
HasTwoShapes shard = HasShapes shape_at shard

-- Parts have all or nothing of a brick.
abbrev pub TakesWhole : List Size → List Part → ℕ → Type 0
TakesWhole sizes parts number = HasAll sizes parts number ⊎ HasNone sizes parts number
