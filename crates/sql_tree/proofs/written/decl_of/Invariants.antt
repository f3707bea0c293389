use Rattle.std.proofs.Common.{◌≡◌, ◌++◌}
use Rattle.std.specs.List.{filter_map}
use Rattle.std.specs.Vec.Iter.{into_iter_items}
use Rattle.cube_language.specs.Columns.{column_dim, column_metric}
use Rattle.sql_tree.proofs.written.decl_of.Given as goal

abbrev pub invariant-columns : goal.invariant-columns
invariant-columns l =
    (goal.iterator-columns).can_next l.column-iterator × (goal.iterator-columns).is_finite l.column-iterator × (l.dims ++ filter_map column_dim (into_iter_items l.column-iterator) ≡ filter_map column_dim l.fn.columns)
    × (l.metrics ++ filter_map column_metric (into_iter_items l.column-iterator) ≡ filter_map column_metric l.fn.columns)
