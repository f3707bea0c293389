use Rattle.row_encoding.proofs.RowCoords.{positive}
use Rattle.row_encoding.proofs.values.narrow.Goals as goal

pub returns-clause-some : goal.returns-clause-some
returns-clause-some c =
    positive c.args.cube.now.dims c.args.dim (rw c.cube_shape-shape.ensures.value at c.cube_shape-shape.ensures.sound).shape.sizes c.requires
