use Rattle.std.proofs.Common.{◌≡◌, ◌++◌, take}
use Rattle.store_reading.proofs.names.add_names.Given as goal

abbrev pub invariant-names : goal.invariant-names
invariant-names l = l.list ≡ l.fn.list ++ take l.name-index l.more
