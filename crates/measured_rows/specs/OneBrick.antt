-- The brick that rows are appended to.
use Rattle.std.specs.Prelude.{[], ◌∷◌}
use Rattle.brick_store.specs.Bricks.{Home}

-- The one brick of a cube of eight coordinates by a thousand, whose rows have a metric.
abbrev pub one_brick : Home
one_brick =
    record {
      sizes = record { cardinality = 8; range = 8 } ∷ record { cardinality = 1_000; range = 1_000 } ∷ [];
      metrics = 1;
      number = 0;
    }
