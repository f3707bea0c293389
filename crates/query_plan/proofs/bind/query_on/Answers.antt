use Rattle.std.proofs.Common.{ap, sym, ◌∙◌}
use Rattle.std.specs.Prelude.{filter_map}
use Rattle.cube_language.specs.ResolvedNames.{dim_place, resolved_item}
use Rattle.condition_spans.specs.Codes.{codes_in, lists_at}
use Rattle.query_plan.proofs.Plans.{all_within, made_by, query_on_from}
use Rattle.query_plan.proofs.bind.query_on.Goals as goal

pub span_for-requires-clause-places : goal.span_for-requires-clause-places
span_for-requires-clause-places c =
    all_within c.args.cube.now c.shape_of.result.now c.in_ok-conditions.conditions c.as_slice-2.result.now
    c.shape_of.ensures.shape c.as_slice-2.ensures c.in_ok-conditions.ensures.within

pub returns-clause-query : goal.returns-clause-query
returns-clause-query c =
    let cube = c.args.cube.now in
    let codes = c.as_slice-3.result.now in
    let conditions = c.as_slice-2.result.now in
    let span = c.in_ok-span.span in
    query_on_from cube c.args.names.now c.args.statement.now
    (record { cube = c.args.place; span = span; group = c.in_ok-group.group; items = c.in_ok-items.items })
    codes conditions c.requires
    (c.as_slice-2.ensures ∙ c.in_ok-conditions.ensures.are)
    (c.as_slice-3.ensures.value ∙ c.in_ok-codes.ensures
    ∙ ap (codes_in (lists_at c.args.names.now c.args.place)) (c.as_slice.ensures ∙ sym c.as_slice-2.ensures))
    (made_by cube c.shape_of.result.now codes conditions span c.shape_of.ensures.shape (record {
      has = c.in_ok-span.ensures.span;
      are = c.in_ok-span.ensures.parts;
      sound = c.in_ok-span.ensures.sound;
      same = c.in_ok-span.ensures.same;
    }))
    (c.in_ok-group.ensures ∙ ap (filter_map (dim_place cube)) c.group_of.ensures)
    (c.in_ok-items.ensures ∙ ap (filter_map (resolved_item cube)) c.items_of.ensures)
