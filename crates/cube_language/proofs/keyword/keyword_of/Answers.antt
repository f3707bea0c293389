use Rattle.std.proofs.Common.{◌∙◌, arith}
use Rattle.cube_language.proofs.KeywordsByLetter.{spelled_at_first, spelled_by_nothing}
use Rattle.cube_language.proofs.keyword.keyword_of.Goals as goal

pub returns-in-empty : goal.returns-in-empty
returns-in-empty c = spelled_by_nothing c.args.word.now (omega (arith, c.in-empty.len_below))

pub returns-in-len1-up : goal.returns-in-len1-up
returns-in-len1-up c =
    c.spelled_among.ensures ∙ spelled_at_first c.args.word.now c.to_ascii_lowercase.result c.keywords_at.result.now c.to_ascii_lowercase.ensures.value c.keywords_at.ensures (omega (arith, c.in-len1-up.len_at_least))
