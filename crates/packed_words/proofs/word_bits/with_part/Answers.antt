use Rattle.std.proofs.Common.{arith}
use Rattle.packed_words.proofs.Shifts.{with_inside, with_outside}
use Rattle.packed_words.proofs.word_bits.with_part.Goals as goal

pub returns-clause-inside : goal.returns-clause-inside
returns-clause-inside c =
    λ k h. with_inside c.args.word c.args.shift c.args.width c.args.value k (omega arith) c.requires.within h

pub returns-clause-outside : goal.returns-clause-outside
returns-clause-outside c =
    λ i l o. with_outside c.args.word c.args.shift c.args.width c.args.value i (omega arith) c.requires.fits l o
