use Rattle.std.proofs.Common.{ap, sym, ◌∙◌}
use Rattle.cube_values.specs.declared.shape.TheConstants.{MOST_BRICKS}
use Rattle.cube_values.specs.Shapes.{ranges_of}
use Rattle.cube_language.specs.Cubes.{has_zero, size_of}
use Rattle.cube_schema.proofs.Bricks.{none_found_at, too_many}
use Rattle.cube_schema.proofs.fault.has_many_bricks.Goals as goal

pub ranges-requires : goal.ranges-requires
ranges-requires c = ap has_zero c.dim-item.is ∙ none_found_at has_zero c.args.dims.now c.dims.dim-index c.dim-item.result c.requires c.dims-test.true

pub returns-then-from-more : goal.returns-then-from-more
returns-then-from-more c =
    let value = c.from.ensures ∙ c.ranges-in-dims.ensures.value ∙ ap (λ dim. ranges_of (size_of dim)) c.dim-item.is in
    let above = rw c.from-in-dims.ensures at c.if-from-more.true in
    sym (too_many c.args.dims.now c.dims.dim-index c.dim-item.result c.dims.bricks c.from.result MOST_BRICKS c.requires c.dims-test.true value c.dims.invariant.product above)
