use Rattle.std.proofs.Common.{sym, ◌∙◌}
use Rattle.known_names.proofs.Entries.{at_any_err, text_known}
use Rattle.known_names.proofs.known.Known.learn.Goals as goal

pub returns-in-Some-clause-learned : goal.returns-in-Some-clause-learned
returns-in-Some-clause-learned c =
    text_known c.args.self.now c.args.text.now c.args.code c.in-Some._known (sym c.find.ensures.code ∙ c.in-Some.is)

pub returns-clause-wanted : goal.returns-clause-wanted
returns-clause-wanted c = at_any_err c.add.result _ (sym c.find.ensures.code ∙ c.in_default.is)
