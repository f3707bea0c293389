-- What a brick is scanned for.
use Rattle.std.specs.Prelude.{ℕ, ◌-◌, ◌^◌, false, [], ◌∷◌, map}
use Rattle.cube_values.specs.Answer.{table_of}
use Rattle.cube_values.specs.declared.query.BoundQuery.{BoundQuery}
use Rattle.cube_values.specs.declared.query.BoundItem.TheVariants.{Group, Count, Sum}
use Rattle.cube_values.specs.declared.snapshot.Snapshot.{Snapshot}
use Rattle.cube_values.specs.declared.span.Part.TheVariants.{All}
use Rattle.cube_values.specs.declared.span.Span.{Span}
use Rattle.agg_fold.specs.Coded.{row_for}
use Rattle.brick_store.specs.Bricks.{BrickState}
use Rattle.brick_store.specs.Rows.{rows_shown}
use Rattle.measured_rows.specs.Sums.{table_sum}

-- A reader that sees every epoch.
abbrev pub all_epochs : Snapshot
all_epochs = record { epoch = 2 ^ 64 - 1; deps = []; own = false }

-- All coordinates of two dimensions.
abbrev pub all_coords : Span
all_coords = record { parts = All ∷ All ∷ [] }

-- A sum and a count for each coordinate of the first dimension.
abbrev pub sums_and_counts : BoundQuery
sums_and_counts =
    record { cube = 0; span = all_coords; group = 0 ∷ []; items = Group 0 ∷ Sum 0 ∷ Count ∷ [] }

-- A count over all rows.
abbrev pub count_alone : BoundQuery
count_alone = record { cube = 0; span = all_coords; group = []; items = Count ∷ [] }

-- The sum of the whole numbers in the answer to a query over all rows of a brick.
abbrev pub scanned_sum : BoundQuery → BrickState → ℕ
scanned_sum query brick =
    table_sum (table_of query.group query.items
    (map (row_for []) (rows_shown query.span all_epochs brick.entries brick.rows)))
