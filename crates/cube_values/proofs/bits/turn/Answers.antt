use Rattle.std.proofs.Common.{arith, sym, ◌∙◌}
use Rattle.cube_values.proofs.BitMasks.{or_inside, or_outside, and_inside, and_outside}
use Rattle.cube_values.proofs.bits.turn.Goals as goal

pub returns-then-on : goal.returns-then-on
returns-then-on c = record {
  inside = λ i _ h. or_inside c.args.word c.args.mask i h ∙ sym c.if-on.true;
  outside = λ i _ h. or_outside c.args.word c.args.mask i h;
}

pub returns-else-on : goal.returns-else-on
returns-else-on c = record {
  inside = λ i l h. and_inside c.args.word c.args.mask i (omega arith) l h ∙ sym c.if-on.false;
  outside = λ i l h. and_outside c.args.word c.args.mask i (omega arith) l h;
}
