use Rattle.std.proofs.Common.{sym, ◌∙◌}
use Rattle.cube_values.proofs.BitMasks.{all_set, none_set}
use Rattle.cube_values.proofs.bits.whole_word.Goals as goal

pub returns-then-on : goal.returns-then-on
returns-then-on c = λ i h. all_set i h ∙ sym c.if-on.true

pub returns-else-on : goal.returns-else-on
returns-else-on c = λ i _. none_set i ∙ sym c.if-on.false
