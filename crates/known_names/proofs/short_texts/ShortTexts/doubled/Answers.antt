use Rattle.std.proofs.Common.{sym, subst, arith}
use Rattle.known_names.specs.Slots.{IsRight}
use Rattle.known_names.proofs.short_texts.ShortTexts.doubled.Goals as goal

pub slots-preserved : goal.slots-preserved
slots-preserved c = λ known right.
    c.put.ensures known (c.slots.invariant known right)
    (subst (IsRight known) (sym c.index.ensures)
    (right c.slots.i c.index.result.now (omega (arith, c.slots-test.true, c.len-i-end.ensures))))
