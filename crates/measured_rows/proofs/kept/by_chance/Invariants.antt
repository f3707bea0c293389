use Rattle.std.proofs.Common.{◌≡◌, length}
use Rattle.measured_rows.proofs.kept.by_chance.Given as goal

abbrev pub invariant-bits : goal.invariant-bits
invariant-bits l = length l.bits.bits ≡ l.items
