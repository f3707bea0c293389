use Rattle.std.proofs.Common.{◌≡◌, ◌++◌}
use Rattle.store_reading.proofs.EachItem.{half_changed}
use Rattle.store_reading.proofs.names.add_lists.Given as goal

abbrev pub invariant-dims : goal.invariant-dims
invariant-dims l = l.all.items ≡ half_changed (λ list more. list ++ more) l.fn.lists l.more l.i
