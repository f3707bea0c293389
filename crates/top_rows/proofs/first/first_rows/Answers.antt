use Rattle.std.proofs.Common.{◌≡◌, filter, sym, ◌∙◌, rules}
use Rattle.std.proofs.lemmas.Fn.{filter_same}
use Rattle.cube_values.specs.First.{passes_all, up_to}
use Rattle.top_rows.specs.Order.{is_before, items_by}
use Rattle.top_rows.proofs.Agreement.{same_first}
use Rattle.top_rows.proofs.first.first_rows.Goals as goal

pub returns : goal.returns
returns c =
    let plan = c.args.plan.now in
    let table = c.args.table in
    let passing : c.retain.new.self.items ≡ filter (passes_all plan.having) c.into_vec-lines.result.items = filter_same _ (passes_all plan.having) _ (λ x b f' k. search rules) _ _ c.retain.ensures.filtered in
    let left : c.retain.new.self.items ≡ filter (passes_all plan.having) table = passing ∙ (λ i. filter (passes_all plan.having) (c.into_vec-lines.ensures i)) in
    c.from_vec.ensures
    ∙ c.in_ok-first.ensures
    ∙ (λ i. up_to plan.limit (items_by (is_before (c.as_slice.ensures i)) (left i)))
    ∙ sym (same_first plan table c.requires)
