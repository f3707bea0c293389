use Rattle.std.proofs.Common.{length}
use Rattle.sql_words.proofs.OpenTexts.{IsOpen}
use Rattle.sql_words.proofs.quote.text_len.Given as goal

abbrev pub invariant-text : goal.invariant-text
invariant-text l = IsOpen l.bytes l.rest

abbrev pub decreases-text : goal.decreases-text
decreases-text l = length l.rest
