use Rattle.std.specs.Prelude.{◌≡◌, All, bytes_eq, map, take}
use Rattle.std.specs.List.{IsDistinct}
use Rattle.names_dict.proofs.cube_dicts.CubeDicts.copy_names.Given as goal

abbrev pub invariant-dims : goal.invariant-dims
invariant-dims l = (l.lists ≡ map (λ d. d.names) (take l.dim l.self)) × All (IsDistinct bytes_eq) l.lists
