use Rattle.std.proofs.Common.{◌≡◌, ◌≤◌, ◌++◌, length}
use Rattle.linked_roll.specs.Members.{items}
use Rattle.aosi_desk.proofs.fields.Fields.pending_list.Given as goal

abbrev pub invariant-loop-epoch : goal.invariant-loop-epoch
invariant-loop-epoch l =
    (goal.iterator-loop-epoch).can_next l.epoch-iterator ×
    (goal.iterator-loop-epoch).is_finite l.epoch-iterator ×
    (l.epochs ++ l.epoch-iterator ≡ items l.self.pending.members) ×
    (length (items l.self.pending.members) ≤ 16)
