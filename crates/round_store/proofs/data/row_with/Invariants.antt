use Rattle.std.proofs.Common.{◌≡◌, take}
use Rattle.round_store.specs.Counts.{row_with}
use Rattle.round_store.proofs.data.row_with.Given as goal

abbrev pub invariant-lists : goal.invariant-lists
invariant-lists l = l.row ≡ take l.i (row_with l.counts l.lists)
