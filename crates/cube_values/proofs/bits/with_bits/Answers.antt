use Rattle.std.proofs.Common.{arith, ◌≡◌, ◌-◌, ◌^◌, ◌∙◌, ap}
use Rattle.std.specs.Int.{bit_at}
use Rattle.cube_values.proofs.BitMasks.{masks_grow, mask_inside, mask_outside}
use Rattle.cube_values.proofs.bits.with_bits.Goals as goal

pub overflow_sub-low_ones : goal.overflow_sub-low_ones
overflow_sub-low_ones c = omega (arith, masks_grow c.args.low c.args.high c.requires.order)

pub returns : goal.returns
returns c =
    let mask : c.low_ones.result - c.low_ones-2.result ≡ (2 ^ c.args.high - 1) - (2 ^ c.args.low - 1) = omega arith in
    record {
      inside = λ i a b. c.turn.ensures.inside i (omega arith) (ap (λ m. bit_at m i) mask ∙ mask_inside c.args.low c.args.high i a b);
      outside = λ i l o. c.turn.ensures.outside i l (ap (λ m. bit_at m i) mask ∙ mask_outside c.args.low c.args.high i o);
    }
