use Rattle.std.proofs.Common.{sym, ◌∙◌}
use Rattle.cube_schema.proofs.WordParts.{ends_in_return}
use Rattle.cube_schema.proofs.words.without_return.Goals as goal

pub returns-in-Some : goal.returns-in-Some
returns-in-Some c = c.in-Some.ensures.cases.1 ∙ sym (rw c.in-Some.ensures.cases.0 at (ends_in_return c.args.line.now))

pub returns-in-None : goal.returns-in-None
returns-in-None c = sym (rw c.in-None.ensures.cases at (ends_in_return c.args.line.now))
