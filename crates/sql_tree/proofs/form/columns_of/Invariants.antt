use Rattle.std.proofs.Common.{◌≡◌, ◌++◌, map, take}
use Rattle.cube_language.specs.declared.decl.Column.TheVariants.{Dim, Metric}
use Rattle.sql_tree.proofs.form.columns_of.Given as goal

abbrev pub invariant-dims : goal.invariant-dims
invariant-dims l = l.columns ≡ map Dim (take l.dim-index l.dims)

abbrev pub invariant-metrics : goal.invariant-metrics
invariant-metrics l = l.columns ≡ map Dim l.decl.dims ++ map Metric (take l.metric-index l.metrics)
