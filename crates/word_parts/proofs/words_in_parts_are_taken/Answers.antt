use Rattle.word_parts.proofs.Ended.{parts_are_read}
use Rattle.word_parts.proofs.words_in_parts_are_taken.Goals as goal

pub returns : goal.returns
returns c = parts_are_read
