use Rattle.std.proofs.Common.{◌≡◌, take}
use Rattle.round_store.specs.Counts.{counts_of}
use Rattle.round_store.proofs.data.counts_of.Given as goal

abbrev pub invariant-cubes : goal.invariant-cubes
invariant-cubes l = l.counts ≡ counts_of (take l.lists-index l.names)
