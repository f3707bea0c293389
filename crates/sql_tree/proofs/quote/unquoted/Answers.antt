use Rattle.sql_tree.proofs.Halves.{after_quote}
use Rattle.sql_tree.proofs.quote.unquoted.Goals as goal

pub range-inner-requires-clause-start_boundary : goal.range-inner-requires-clause-start_boundary
range-inner-requires-clause-start_boundary c = λ some. after_quote c.args.in_quotes.now c.requires.0 c.utf8.in_quotes c.requires.1
