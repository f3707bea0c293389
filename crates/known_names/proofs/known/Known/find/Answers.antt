use Rattle.std.proofs.Common.{sym, subst, ◌∙◌, vec_items}
use Rattle.known_names.specs.Slots.{AreRight}
use Rattle.known_names.proofs.Entries.{code_is, distinct_texts}
use Rattle.known_names.proofs.known.Known.find.Goals as goal

pub returns-in-Some-clause-code : goal.returns-in-Some-clause-code
returns-in-Some-clause-code c =
    sym (c.in-Some.ensures c.args.self.now
    (subst (λ k. AreRight k c.self.inside.short.slots.items) c.self.view_is c.self.invariant.1))

pub returns-in-Some-clause-distinct : goal.returns-in-Some-clause-distinct
returns-in-Some-clause-distinct c =
    distinct_texts vec_items c.self.inside.texts.entries c.args.self.now c.self.view_is c.self.invariant.0

pub returns-clause-code : goal.returns-clause-code
returns-clause-code c =
    c.copied.ensures ∙ c.get.ensures.value
    ∙ code_is vec_items c.self.inside.texts.entries c.args.self.now c.args.text.now c.self.view_is

pub returns-clause-distinct : goal.returns-clause-distinct
returns-clause-distinct c =
    distinct_texts vec_items c.self.inside.texts.entries c.args.self.now c.self.view_is c.self.invariant.0
