use Rattle.std.proofs.Common.{◌≡◌, replicate}
use Rattle.aosi_desk.specs.declared.hold.Hold.TheVariants.{Free}
use Rattle.aosi_desk.proofs.fields.free_holds.Given as goal

abbrev pub invariant-loop-number : goal.invariant-loop-number
invariant-loop-number l = l.holds.items ≡ replicate l._number Free
