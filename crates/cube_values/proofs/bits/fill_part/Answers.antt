use Rattle.cube_values.proofs.BitWords.{word_filled}
use Rattle.cube_values.proofs.bits.fill_part.Goals as goal

pub returns-then-low-high : goal.returns-then-low-high
returns-then-low-high c =
    word_filled c.args.words.now c.args.at c.args.low c.args.high c.with_bits.result c.args.on (c.requires.there c.if-low-high.true) c.requires.word c.with_bits.ensures.inside c.with_bits.ensures.outside
