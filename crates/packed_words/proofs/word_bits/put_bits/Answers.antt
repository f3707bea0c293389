use Rattle.packed_words.proofs.WordLists.{word_replaced}
use Rattle.packed_words.proofs.word_bits.put_bits.Goals as goal

pub returns : goal.returns
returns c =
    word_replaced c.args.words.now c.args.place c.args.width c.args.value c.with_part.result c.requires.within c.requires.word c.with_part.ensures.inside c.with_part.ensures.outside
