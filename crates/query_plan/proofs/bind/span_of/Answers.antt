use Rattle.query_plan.proofs.Plans.{drop_span_by, made_for}
use Rattle.query_plan.proofs.bind.span_of.Goals as goal

pub returns : goal.returns
returns c =
    drop_span_by c.args.cubes.now c.args.plan.now c.args.codes.now c.span_for.result c.index-cubes-plan.result
    c.shape_of.result.now c.as_slice.result.now c.requires c.index-cubes-plan.is c.shape_of.ensures.storable
    c.shape_of.ensures.shape c.as_slice.ensures c.shape_of.ensures.sound
    (made_for c.shape_of.result.now.sizes c.args.codes.now c.as_slice.result.now c.span_for.result
    c.span_for.ensures.span c.span_for.ensures.parts c.span_for.ensures.sound c.span_for.ensures.same)
