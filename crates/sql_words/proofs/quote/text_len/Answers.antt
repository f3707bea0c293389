use Rattle.std.proofs.Common.{◌<◌, length, sym, ◌∙◌, arith}
use Rattle.std.proofs.lemmas.Bool.Decides.{nat_tests}
use Rattle.std.proofs.lemmas.Grind.{common_steps}
use Rattle.sql_words.proofs.OpenTexts.{open_ends}
use Rattle.sql_words.proofs.quote.text_len.Goals as goal

pub returns-then-len-eq0-clause-some : goal.returns-then-len-eq0-clause-some
returns-then-len-eq0-clause-some c =
    let some : 0 < length c.text.rest.now = grind (arith, nat_tests, common_steps) in
    open_ends _ _ some (sym c.letter_len-len.ensures ∙ c.if-len-eq0.true) c.text.invariant
