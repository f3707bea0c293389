use Rattle.std.proofs.Common.{arith}
use Rattle.packed_words.proofs.Shifts.{straddled_low, straddled_high}
use Rattle.packed_words.proofs.word_bits.straddling_word.Goals as goal

pub returns-clause-low : goal.returns-clause-low
returns-clause-low c = λ k h. straddled_low c.args.low c.args.high c.args.shift k c.requires.some h

pub returns-clause-high : goal.returns-clause-high
returns-clause-high c =
    λ k l h. straddled_high c.args.low c.args.high c.args.shift k (omega arith) c.requires.some c.requires.word l h
