use Rattle.std.proofs.Common.{◌≡◌, ◌++◌, take}
use Rattle.std.specs.List.{flat_map}
use Rattle.cube_rounds.specs.Bytes.{name_bytes}
use Rattle.round_text.proofs.put.put_each_name.Given as goal

abbrev pub invariant-names : goal.invariant-names
invariant-names l = l.out.items ≡ l.fn.out.items ++ flat_map name_bytes (take l.name-index l.names)
