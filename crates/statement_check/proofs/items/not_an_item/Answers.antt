use Rattle.std.proofs.Common.{Some, None, sym, ◌∙◌}
use Rattle.std.specs.Prelude.{find}
use Rattle.statement_check.proofs.Lists.{is_strange, strange_then}
use Rattle.statement_check.proofs.items.not_an_item.Goals as goal

pub returns-in-Some : goal.returns-in-Some
returns-in-Some c =
    sym (strange_then c.args.statement.now c.items_of-items.result.now _
    (Some c.in-Some.item.now) c.items_of-items.ensures c.having_of.ensures c.in-Some.ensures)

pub returns : goal.returns
returns c =
    sym (strange_then c.args.statement.now c.items_of-items.result.now _ None c.items_of-items.ensures
    c.having_of.ensures c.in_default.ensures
    ∙ (λ i. find (is_strange (sym c.items_of-items.ensures i)) (sym c.order_of.ensures i))
    ∙ sym c.strange_in_order.ensures)
