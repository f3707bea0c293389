-- The query and the rows of a test, over a cube with one dimension and one metric.
use Rattle.std.specs.Prelude.{ℕ, ℤ, List, [], ◌∷◌}
use Rattle.cube_values.specs.declared.query.BoundItem.TheVariants.{Count, Sum}
use Rattle.cube_values.specs.declared.query.BoundQuery.{BoundQuery}
use Rattle.cube_values.specs.declared.row.CodedRow.{CodedRow}
use Rattle.cube_values.specs.declared.span.Part.TheVariants.{All}
use Rattle.agg_fold.specs.Standing.{StandsFor}
use Rattle.standing_query.specs.declared.change.Change.{Change}
use Rattle.standing_query.specs.Watches.{WatchState, Shows}

-- SUM and COUNT of all rows by these dimensions.
abbrev pub sum_and_count : List ℕ → BoundQuery
sum_and_count group =
    record { cube = 0; span = record { parts = All ∷ [] }; group = group; items = Sum 0 ∷ Count ∷ [] }

-- One row.
abbrev pub one_row : ℕ → ℤ → List CodedRow
one_row coord metric = record { coords = coord ∷ []; metrics = metric ∷ [] } ∷ []

-- A watch shows no rows, and these come by a change.
pub record IsTrial (rows : List CodedRow) (watch : WatchState) (change : Change) : Type 0 where
  pub none : Shows watch []
  pub come : StandsFor watch.query rows change.came.groups
  pub go : StandsFor watch.query [] change.went.groups
