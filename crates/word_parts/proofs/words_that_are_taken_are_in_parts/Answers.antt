use Rattle.word_parts.proofs.Cuts.{taken_in_parts}
use Rattle.word_parts.proofs.words_that_are_taken_are_in_parts.Goals as goal

pub returns : goal.returns
returns c = taken_in_parts
