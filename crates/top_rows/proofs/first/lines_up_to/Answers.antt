use Rattle.std.proofs.Common.{◌≡◌, ◌≤◌, length, Some, None, sym, ◌∙◌, arith, rules}
use Rattle.std.proofs.lemmas.List.{take_all}
use Rattle.cube_values.specs.First.{up_to}
use Rattle.top_rows.specs.Order.{is_before, items_by}
use Rattle.top_rows.proofs.Items.{length_items}
use Rattle.top_rows.proofs.first.lines_up_to.Goals as goal
use Rattle.top_rows.proofs.first.lines_up_to.Goals.{in-Some+else-limit-len, in_default}

pub returns : goal.returns
returns c =
    let before = is_before c.args.keys.now in
    let lines = c.args.lines.items in
    elim c.match-limit.branch [
      | in-Some+else-limit-len w ↦
          let some : c.args.limit ≡ Some w.in-Some.limit = w.in-Some.is in
          let few : length lines ≤ w.in-Some.limit = omega arith in
          c.in_ok-sort_lines.ensures
          ∙ sym (take_all w.in-Some.limit (items_by before lines) (omega (arith, few, length_items before lines)))
          ∙ (λ i. up_to (sym some i) (items_by before lines))
      | in_default w ↦
          let none : c.args.limit ≡ None = search rules in
          c.in_ok-sort_lines.ensures ∙ (λ i. up_to (sym none i) (items_by before lines))
    ]
