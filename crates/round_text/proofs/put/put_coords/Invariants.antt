use Rattle.std.proofs.Common.{◌≡◌, ◌++◌, take}
use Rattle.std.specs.List.{flat_map}
use Rattle.cube_rounds.specs.Bytes.{four_bytes}
use Rattle.round_text.proofs.put.put_coords.Given as goal

abbrev pub invariant-coords : goal.invariant-coords
invariant-coords l = l.out.items ≡ l.fn.out.items ++ flat_map four_bytes (take l.coord-index l.coords)
