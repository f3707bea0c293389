use Rattle.core_steps.proofs.RangeEnds.{cuts-none}
use Rattle.core_steps.proofs.boxes.cuts_no_brick.Goals as goal

pub returns : goal.returns
returns c = λ ends. cuts-none c.args.sizes.now _ c.args.low c.args.high c.if-sizes-ne1.false (c.are_range_ends.ensures ends)
