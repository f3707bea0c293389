-- What a statement asks by the places of its cube: the region of its conditions, its query, and what HAVING, ORDER BY
-- and LIMIT ask for. In a statement that fits its cube each name has its place.
-- Source: Cubrick (VLDB 2016), filters and groups by dimensions; HAVING, ORDER BY and LIMIT are SQL's.
use Rattle.std.specs.Prelude.{ℕ, List, [], filter_map, Option, Some, None}
use Rattle.std.specs.List.{position_from}
use Rattle.std.specs.Option.{option_map}
use Rattle.std.specs.Str.{bytes_eq}
use Rattle.cube_values.specs.declared.operation.Condition.{Condition}
use Rattle.cube_values.specs.declared.operation.Region.{Region}
use Rattle.cube_values.specs.declared.query.BoundItem.{BoundItem}
use Rattle.cube_values.specs.declared.query.BoundItem.TheVariants as bound
use Rattle.cube_values.specs.declared.query.Query.{Query}
use Rattle.cube_values.specs.declared.top_plan.BoundKey.{BoundKey}
use Rattle.cube_values.specs.declared.top_plan.BoundTest.{BoundTest}
use Rattle.cube_values.specs.declared.top_plan.TopPlan.{TopPlan}
use Rattle.cube_language.specs.Misfits.{cond_name, cond_test}
use Rattle.cube_language.specs.SameItems.{item_eq}
use Rattle.cube_language.specs.StatementParts.{items_of, conds_of, group_of}
use Rattle.cube_language.specs.declared.decl.Decl.{Decl}
use Rattle.cube_language.specs.declared.statement.Cond.{Cond}
use Rattle.cube_language.specs.declared.statement.Item.{Item}
use Rattle.cube_language.specs.declared.statement.Item.TheVariants.{Plain, Sum, Min, Max, Avg, CountAll}
use Rattle.cube_language.specs.declared.statement.Key.{Key}
use Rattle.cube_language.specs.declared.statement.Statement.{Statement}
use Rattle.cube_language.specs.declared.statement.Statement.TheVariants.{Select}
use Rattle.cube_language.specs.declared.statement.Test.{Test}

-- The place of the dimension of a name, and of the metric of a name, from 0.
abbrev pub dim_place : Decl → List ℕ → Option ℕ
dim_place d name = position_from (λ dim. bytes_eq dim.name name) 0 d.dims

abbrev pub metric_place : Decl → List ℕ → Option ℕ
metric_place d name = position_from (bytes_eq name) 0 d.metrics

-- A condition tests the values at the place of its dimension.
abbrev pub resolved_cond : Decl → Cond → Option Condition
resolved_cond d c = option_map (λ p. record { place = p; test = cond_test c }) (dim_place d (cond_name c))

-- The rows of a cube for which conditions hold.
abbrev pub resolved_region : Decl → List Cond → Region
resolved_region d conds = record { cube = d.name; conditions = filter_map (resolved_cond d) conds }

-- An item is the value of a dimension, or is computed of a metric.
abbrev pub resolved_item : Decl → Item → Option BoundItem
resolved_item d (Plain name) = option_map bound.Group (dim_place d name)
resolved_item d (Sum name) = option_map bound.Sum (metric_place d name)
resolved_item d (Min name) = option_map bound.Min (metric_place d name)
resolved_item d (Max name) = option_map bound.Max (metric_place d name)
resolved_item d (Avg name) = option_map bound.Avg (metric_place d name)
resolved_item d CountAll = Some bound.Count

-- What a SELECT or a WATCH asks of the rows of its cube.
abbrev pub resolved_query : Decl → Statement → Query
resolved_query d s = record {
  region = resolved_region d (conds_of s);
  group = filter_map (dim_place d) (group_of s);
  items = filter_map (resolved_item d) (items_of s);
}

-- The place of an item among those of a query, from 0.
abbrev pub item_place : Statement → Item → Option ℕ
item_place s item = position_from (item_eq item) 0 (items_of s)

-- A test of HAVING and a key of ORDER BY look at the field of their item.
abbrev pub resolved_test : Statement → Test → Option BoundTest
resolved_test s t = option_map (λ p. record { place = p; bound = t.bound }) (item_place s t.item)

abbrev pub resolved_key : Statement → Key → Option BoundKey
resolved_key s k = option_map (λ p. record { place = p; desc = k.desc }) (item_place s k.item)

-- Which lines of its table a SELECT asks for, and in which order.
abbrev pub resolved_plan : Statement → TopPlan
resolved_plan (Select items cube conds group having order limit) =
    let s = Select items cube conds group having order limit in
    record { having = filter_map (resolved_test s) having; keys = filter_map (resolved_key s) order; limit = limit }
resolved_plan statement = record { having = []; keys = []; limit = None }
