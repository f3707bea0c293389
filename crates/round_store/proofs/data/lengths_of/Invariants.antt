use Rattle.std.proofs.Common.{◌≡◌, map, length, take}
use Rattle.round_store.proofs.data.lengths_of.Given as goal

abbrev pub invariant-lists : goal.invariant-lists
invariant-lists l = l.lengths ≡ map length (take l.list-index l.lists)
