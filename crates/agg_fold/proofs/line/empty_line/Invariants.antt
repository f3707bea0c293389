use Rattle.std.proofs.Common.{◌≡◌, map, take}
use Rattle.agg_fold.specs.Lines.{empty_field}
use Rattle.agg_fold.proofs.line.empty_line.Given as goal

abbrev pub invariant-items : goal.invariant-items
invariant-items l = l.fields.items ≡ map empty_field (take l.item-index l.items)
