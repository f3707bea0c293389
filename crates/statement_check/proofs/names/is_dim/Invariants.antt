use Rattle.std.proofs.Common.{◌≡◌, length}
use Rattle.std.specs.List.{list_any}
use Rattle.std.specs.Str.{bytes_eq}
use Rattle.cube_language.specs.Cubes.{dim_names}
use Rattle.statement_check.proofs.names.is_dim.Given as goal

abbrev pub invariant-dims : goal.invariant-dims
invariant-dims l = list_any (bytes_eq l.name) (dim_names l.left) ≡ list_any (bytes_eq l.name) (dim_names l.dims)

abbrev pub decreases-dims : goal.decreases-dims
decreases-dims l = length l.left
