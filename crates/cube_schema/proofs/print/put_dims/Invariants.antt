use Rattle.std.proofs.Common.{◌≡◌, ◌++◌, take}
use Rattle.std.specs.List.{flat_map}
use Rattle.cube_language.specs.Cubes.{dim_text}
use Rattle.cube_schema.proofs.print.put_dims.Given as goal

abbrev pub invariant-dims : goal.invariant-dims
invariant-dims l = l.out.items ≡ l.fn.out.items ++ flat_map dim_text (take l.dim-index l.dims)
