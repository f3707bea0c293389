use Rattle.std.proofs.Common.{◌≡◌, take, map, string_bytes}
use Rattle.names_dict.proofs.dict.Dict.copy_from.Given as goal

abbrev pub invariant-loop-name : goal.invariant-loop-name
invariant-loop-name l = l.texts.items ≡ map string_bytes (take l.name-index l.left)
