-- The layout of the rows that are left in columns.
use Rattle.std.specs.Prelude.{[], ◌∷◌}
use Rattle.brick_columns.specs.Rows.{Layout}

-- Offsets of two dimensions, and a metric.
abbrev pub one_layout : Layout
one_layout = record { ranges = 8 ∷ 1_000 ∷ []; metrics = 1 }
