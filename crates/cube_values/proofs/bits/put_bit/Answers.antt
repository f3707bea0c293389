use Rattle.std.proofs.Common.{arith}
use Rattle.cube_values.proofs.BitWords.{bit_filled}
use Rattle.cube_values.proofs.bits.put_bit.Goals as goal

pub returns : goal.returns
returns c =
    bit_filled c.args.words.now c.args.i c.with_bit.result c.args.on (omega arith) c.with_bit.ensures.inside c.with_bit.ensures.outside
