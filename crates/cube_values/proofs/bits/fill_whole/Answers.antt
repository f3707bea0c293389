use Rattle.std.proofs.Common.{rules}
use Rattle.cube_values.proofs.BitWords.{words_filled}
use Rattle.cube_values.proofs.bits.fill_whole.Goals as goal

pub returns : goal.returns
returns c =
    words_filled c.args.words.now c.fill.new.self c.args.first c.args.last c.whole_word.result c.args.on c.requires.order c.requires.within (c.fill.ensures.after (search rules)) c.whole_word.ensures
