use Rattle.std.proofs.Common.{◌≡◌, take, map}
use Rattle.cube_values.specs.Answer.{item_of}
use Rattle.plain_history.proofs.fields.line_of.Given as goal

abbrev pub invariant-loop-item : goal.invariant-loop-item
invariant-loop-item l = l.fields.items ≡ map (item_of (map (λ r. r.now) l.rows)) (take l.item-index l.items)
