-- A query over a cube without dimensions, and two of its rows, for a test; and partials of at most so many rows.
use Rattle.std.specs.Prelude.{ℕ, ◌≤◌, List, [], ◌∷◌, length, pos}
use Rattle.cube_values.specs.declared.query.BoundItem.TheVariants.{Count, Sum}
use Rattle.cube_values.specs.declared.query.BoundQuery.{BoundQuery}
use Rattle.cube_values.specs.declared.row.CodedRow.{CodedRow}
use Rattle.agg_fold.specs.declared.groups.Groups.{Groups}
use Rattle.agg_fold.specs.Standing.{StandsFor}

-- Groups stand for some rows, at most so many.
abbrev pub StandsForFew : BoundQuery → ℕ → Groups → Type 0
StandsForFew query most groups = (rows : List CodedRow) × StandsFor query rows groups × (length rows ≤ most)

-- COUNT and SUM of the only metric.
abbrev pub count_and_sum : BoundQuery
count_and_sum = record { cube = 0; span = record { parts = [] }; group = []; items = Count ∷ Sum 0 ∷ [] }

-- The metrics 3 and 5.
abbrev pub three_and_five : List CodedRow
three_and_five =
    record { coords = []; metrics = pos 3 ∷ [] } ∷ record { coords = []; metrics = pos 5 ∷ [] } ∷ []
