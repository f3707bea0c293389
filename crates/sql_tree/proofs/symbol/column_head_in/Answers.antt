use Rattle.std.proofs.Common.{ap, ◌∙◌}
use Rattle.sql_tree.specs.Reading.{column_head_in}
use Rattle.sql_tree.proofs.Keywords.{keyword_in_is, no_column_head}
use Rattle.sql_tree.proofs.symbol.column_head_in.Goals as goal

pub returns-in_default : goal.returns-in_default
returns-in_default c =
    let not = c.in_default in
    let symbol = keyword_in_is _ _ c.in_ok-keyword_in.ensures in
    no_column_head _ not.not-Dim not.not-Metric ∙ ap column_head_in symbol
