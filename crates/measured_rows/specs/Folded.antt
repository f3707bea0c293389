-- The query that rows are folded under.
use Rattle.std.specs.Prelude.{[], ◌∷◌}
use Rattle.cube_values.specs.declared.query.BoundQuery.{BoundQuery}
use Rattle.cube_values.specs.declared.query.BoundItem.TheVariants.{Group, Count, Sum, Max}
use Rattle.cube_values.specs.declared.span.Part.TheVariants.{All}

-- The count of rows, a sum and a greatest value for each value of the first of two dimensions.
abbrev pub eight_groups : BoundQuery
eight_groups =
    record {
      cube = 0;
      span = record { parts = All ∷ All ∷ [] };
      group = 0 ∷ [];
      items = Group 0 ∷ Count ∷ Sum 0 ∷ Max 1 ∷ [];
    }
