use Rattle.std.proofs.Common.{◌≡◌, length}
use Rattle.top_rows.specs.Order.{any_line_cmp}
use Rattle.top_rows.proofs.compared.compare_lines.Given as goal

abbrev pub invariant-keys : goal.invariant-keys
invariant-keys l = any_line_cmp l.left l.a l.b ≡ any_line_cmp l.keys l.a l.b

abbrev pub decreases-keys : goal.decreases-keys
decreases-keys l = length l.left
