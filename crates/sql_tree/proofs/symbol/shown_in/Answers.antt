use Rattle.std.proofs.Common.{ap, ◌∙◌}
use Rattle.sql_tree.specs.Reading.{shown_in}
use Rattle.sql_tree.proofs.Keywords.{keyword_in_is, no_shown}
use Rattle.sql_tree.proofs.symbol.shown_in.Goals as goal

pub returns-in_default : goal.returns-in_default
returns-in_default c =
    let not = c.in_default in
    let symbol = keyword_in_is _ _ c.in_ok-keyword_in.ensures in
    no_shown _ not.not-Epochs not.not-Watch ∙ ap shown_in symbol
