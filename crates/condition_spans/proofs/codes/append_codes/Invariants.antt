use Rattle.std.proofs.Common.{◌≡◌, ◌++◌, length}
use Rattle.condition_spans.specs.Codes.{codes_among}
use Rattle.condition_spans.proofs.codes.append_codes.Given as goal

abbrev pub invariant-values : goal.invariant-values
invariant-values l =
    l.codes.items ++ codes_among l.texts l.left ≡ l.fn.codes.items ++ codes_among l.texts l.values

abbrev pub decreases-values : goal.decreases-values
decreases-values l = length l.left
