use Rattle.std.proofs.Common.{◌≡◌, ◌++◌, replicate}
use Rattle.report_text.proofs.tables.put_zeros.Given as goal

abbrev pub invariant-zeros : goal.invariant-zeros
invariant-zeros l = l.out.items ≡ l.fn.out.items ++ replicate l.counter 48
