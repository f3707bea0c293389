use Rattle.std.proofs.Common.{◌∙◌, arith}
use Rattle.brick_address.proofs.Bricks.{only_coord}
use Rattle.brick_address.proofs.address.coord_of.Goals as goal

pub returns-clause-only : goal.returns-clause-only
returns-clause-only c coords i o =
    let e = only_coord c.args.shape.now.sizes c.args.brick c.args.dim c.args.offset coords c.requires.shape.sizes c.requires.dim i o in
    rw (c.bounds_of.ensures.start, c.range_in-range.ensures, c.as_slice-sizes.ensures) (e ∙ omega arith)
