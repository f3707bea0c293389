use Rattle.std.proofs.Common.{◌≡◌, ◌*◌, length}
use Rattle.measured_rows.proofs.plain.copied.Given as goal

abbrev pub invariant-times : goal.invariant-times
invariant-times l = length l.out.items ≡ l._time * length l.batch
