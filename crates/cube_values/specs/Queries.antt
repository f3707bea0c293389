-- Which queries fit a cube.
use Rattle.std.specs.Prelude.{◌≡◌, ℕ, ◌<◌, List, length, All, Contains}
use Rattle.cube_values.specs.declared.query.BoundItem.{BoundItem}
use Rattle.cube_values.specs.declared.query.BoundItem.TheVariants.{Group, Count, Sum, Min, Max, Avg}
use Rattle.cube_values.specs.declared.query.BoundQuery.{BoundQuery}

-- An item names a dimension of the group, or a metric of the cube.
abbrev pub IsSoundItem : List ℕ → ℕ → BoundItem → Type 0
IsSoundItem group metrics (Group dim) = Contains group dim
IsSoundItem group metrics Count = Unit {0}
IsSoundItem group metrics (Sum metric) = metric < metrics
IsSoundItem group metrics (Min metric) = metric < metrics
IsSoundItem group metrics (Max metric) = metric < metrics
IsSoundItem group metrics (Avg metric) = metric < metrics

-- A query fits a cube of so many dimensions and metrics.
pub record IsSoundQuery (query : BoundQuery) (dims metrics : ℕ) : Type 0 where
  pub span : length query.span.parts ≡ dims
  pub group : All (λ dim. dim < dims) query.group
  pub items : All (IsSoundItem query.group metrics) query.items
