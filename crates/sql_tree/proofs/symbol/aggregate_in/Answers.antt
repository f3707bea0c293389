use Rattle.std.proofs.Common.{ap, ◌∙◌}
use Rattle.sql_tree.specs.Reading.{aggregate_in}
use Rattle.sql_tree.proofs.Keywords.{keyword_in_is, no_aggregate}
use Rattle.sql_tree.proofs.symbol.aggregate_in.Goals as goal

pub returns-in_default : goal.returns-in_default
returns-in_default c =
    let not = c.in_default in
    let symbol = keyword_in_is _ _ c.in_ok-keyword_in.ensures in
    no_aggregate _ not.not-Sum not.not-Min not.not-Max not.not-Avg not.not-Count ∙ ap aggregate_in symbol
