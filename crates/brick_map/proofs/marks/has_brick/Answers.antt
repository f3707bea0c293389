use Rattle.brick_map.proofs.Coverage.{has_inside, has_outside, not_cut}
use Rattle.brick_map.proofs.marks.has_brick.Goals as goal

pub returns-in-Inside : goal.returns-in-Inside
returns-in-Inside c = has_inside c.args.shape.now.sizes c.args.span.now c.args.number c.requires.shape.sizes c.requires.brick c.in-Inside.ensures

pub returns-in-Outside : goal.returns-in-Outside
returns-in-Outside c = has_outside c.args.shape.now.sizes c.args.span.now c.args.number c.requires.shape.sizes c.requires.brick c.in-Outside.ensures

pub returns-in-Cut : goal.returns-in-Cut
returns-in-Cut c = absurd (not_cut c.args.shape.now.sizes c.args.span.now c.args.number c.requires.shape.sizes c.requires.brick _ c.requires.whole c.in-Cut.ensures)
