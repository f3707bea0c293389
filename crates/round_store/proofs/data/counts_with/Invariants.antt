use Rattle.std.proofs.Common.{◌≡◌, take}
use Rattle.round_store.specs.Counts.{counts_with}
use Rattle.round_store.proofs.data.counts_with.Given as goal

abbrev pub invariant-parts : goal.invariant-parts
invariant-parts l = l.all ≡ take l.i (counts_with l.counts l.parts)
