use Rattle.std.proofs.Common.{◌≡◌, ◌%◌, ◌^◌, take}
use Rattle.std.specs.List.{sum_by}
use Rattle.measured_rows.proofs.plain.sum_of.Given as goal

abbrev pub invariant-numbers : goal.invariant-numbers
invariant-numbers l = l.sum ≡ sum_by (λ number. number) (take l.number-index l.numbers) % 2 ^ 64
