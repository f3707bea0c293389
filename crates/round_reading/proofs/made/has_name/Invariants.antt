use Rattle.std.proofs.Common.{◌≡◌, false, take}
use Rattle.std.specs.List.{list_any}
use Rattle.std.specs.Str.{bytes_eq}
use Rattle.cube_rounds.specs.Demands.{cube_names_of}
use Rattle.round_reading.proofs.made.has_name.Given as goal

abbrev pub invariant-cubes : goal.invariant-cubes
invariant-cubes l = list_any (bytes_eq l.name) (cube_names_of (take l.cube-index l.cubes)) ≡ false
