use Rattle.std.proofs.Common.{◌≡◌, ◌++◌, length}
use Rattle.condition_spans.specs.Codes.{codes_in}
use Rattle.condition_spans.proofs.codes.codes_in.Given as goal

abbrev pub invariant-conditions : goal.invariant-conditions
invariant-conditions l = l.codes.items ++ codes_in l.lists l.left ≡ codes_in l.lists l.conditions

abbrev pub decreases-conditions : goal.decreases-conditions
decreases-conditions l = length l.left
