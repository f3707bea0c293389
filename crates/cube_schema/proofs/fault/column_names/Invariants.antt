use Rattle.std.proofs.Common.{◌≡◌, ◌++◌, take}
use Rattle.cube_language.specs.Cubes.{dim_names}
use Rattle.cube_schema.specs.Repeats.{names_lent}
use Rattle.cube_schema.proofs.fault.column_names.Given as goal

abbrev pub invariant-metrics : goal.invariant-metrics
invariant-metrics l = names_lent l.names.items ≡ dim_names l.decl.dims ++ take l.name-index l.decl.metrics
