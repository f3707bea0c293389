use Rattle.std.proofs.Common.{ap, sym, subst, ◌∙◌}
use Rattle.brick_store.specs.Bricks.{Home}
use Rattle.brick_map.specs.Waiting.{IsReadied}
use Rattle.brick_map.proofs.Readied.{born_there, readied_born, readied_same}
use Rattle.brick_map.proofs.birth.give_birth.Goals as goal

pub returns-in_err-add-in-None-clause-readied : goal.returns-in_err-add-in-None-clause-readied
returns-in_err-add-in-None-clause-readied c =
    readied_same c.args.shape.now c.args.recent.now c.args.list.now c.add.new.self c.in_err-add-in-None.ensures.err c.requires.bricks

pub returns-in_ok-add-in-None-clause-readied : goal.returns-in_ok-add-in-None-clause-readied
returns-in_ok-add-in-None-clause-readied c =
    let b = c.in_ok-brick-in-None.brick in
    let made = c.in_ok-brick-in-None.ensures in
    subst (IsReadied c.args.shape.now c.args.recent.now c.args.list.now) (sym c.in_ok-add-in-None.ensures.ok)
    (readied_born c.args.shape.now c.args.recent.now c.args.list.now b c.args.number c.requires.bricks (sym c.find.ensures ∙ c.in-None.is) c.requires.number made.home made.content)

pub returns-in_ok-add-in-None-clause-there : goal.returns-in_ok-add-in-None-clause-there
returns-in_ok-add-in-None-clause-there c =
    let b = c.in_ok-brick-in-None.brick in
    born_there c.args.list.now c.add.new.self b c.args.number (sym c.find.ensures ∙ c.in-None.is) (ap (λ (h : Home). h.number) c.in_ok-brick-in-None.ensures.home) c.in_ok-add-in-None.ensures.ok
