use Rattle.std.proofs.Common.{◌≡◌, map, take}
use Rattle.column_cases.proofs.making.columns_for.Given as goal

abbrev pub invariant-loop-range : goal.invariant-loop-range
invariant-loop-range g l = map (λ size. size.range) l.sizes.items ≡ take l.range-index l.ranges
