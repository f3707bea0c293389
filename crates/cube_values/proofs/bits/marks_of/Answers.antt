use Rattle.std.proofs.Common.{arith, sym, ◌∙◌, ap, not}
use Rattle.cube_values.proofs.BitNext.{not_set, not_unset}
use Rattle.cube_values.proofs.bits.marks_of.Goals as goal

pub returns-else-on-clause-set : goal.returns-else-on-clause-set
returns-else-on-clause-set c = λ i h s. not_set c.args.word i (omega arith) h s ∙ sym c.if-on.false

pub returns-else-on-clause-unset : goal.returns-else-on-clause-unset
returns-else-on-clause-unset c = λ i h s. not_unset c.args.word i (omega arith) h s ∙ ap not (sym c.if-on.false)
