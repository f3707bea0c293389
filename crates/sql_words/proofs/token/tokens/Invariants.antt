use Rattle.std.proofs.Common.{length}
use Rattle.sql_words.proofs.TokensLeft.{AreRead}
use Rattle.sql_words.proofs.token.tokens.Given as goal

abbrev pub invariant-tokens : goal.invariant-tokens
invariant-tokens l = AreRead l.bytes l.tokens l.rest

abbrev pub decreases-tokens : goal.decreases-tokens
decreases-tokens l = length l.rest
