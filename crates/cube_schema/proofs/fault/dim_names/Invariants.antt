use Rattle.std.proofs.Common.{◌≡◌, take}
use Rattle.cube_language.specs.Cubes.{dim_names}
use Rattle.cube_schema.specs.Repeats.{names_lent}
use Rattle.cube_schema.proofs.fault.dim_names.Given as goal

abbrev pub invariant-dims : goal.invariant-dims
invariant-dims l = names_lent l.names.items ≡ dim_names (take l.dim-index l.dims)
