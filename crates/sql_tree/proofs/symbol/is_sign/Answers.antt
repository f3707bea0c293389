use Rattle.cube_language.specs.Tokens.{token_bytes}
use Rattle.sql_tree.proofs.Keywords.{word_sign}
use Rattle.sql_tree.proofs.symbol.is_sign.Goals as goal

pub returns-in-Keyword : goal.returns-in-Keyword
returns-in-Keyword c =
    let said = word_sign c.in-Keyword.keyword (token_bytes c.args.text.now c.args.token.now) in
    let word = c.in-Word.is in
    let wanted = c.in-Keyword.is in
    rw (word, wanted) (cc said)
