use Rattle.cube_values.proofs.BitMasks.{one_inside, one_outside}
use Rattle.cube_values.proofs.bits.with_bit.Goals as goal

pub returns : goal.returns
returns c = record {
  inside = c.turn.ensures.inside c.args.k c.requires (one_inside c.args.k c.requires);
  outside = λ i l o. c.turn.ensures.outside i l (one_outside c.args.k i c.requires o);
}
