use Rattle.std.proofs.Common.{Some, None, sym, ap, ◌∙◌}
use Rattle.std.specs.List.{flat_map}
use Rattle.cube_language.specs.ColumnUses.{item_uses}
use Rattle.statement_check.specs.ColumnTests.{first_failing}
use Rattle.statement_check.proofs.Lists.{items_then, conds_then, group_then, having_then}
use Rattle.statement_check.proofs.columns.failing_column.Goals as goal

pub returns-in-Some : goal.returns-in-Some
returns-in-Some c =
    sym (items_then c.args.test c.args.decl.now c.args.statement.now c.items_of.result.now
    (Some c.in-Some.name.now) c.items_of.ensures c.in-Some.ensures)

pub returns-in-Some-failing_in_conds : goal.returns-in-Some-failing_in_conds
returns-in-Some-failing_in_conds c =
    let t = c.args.test in
    let d = c.args.decl.now in
    let s = c.args.statement.now in
    sym (items_then t d s c.items_of.result.now None c.items_of.ensures c.in_default.ensures
    ∙ conds_then t d s c.conds_of.result.now
    (Some c.in-Some-failing_in_conds.name.now) c.conds_of.ensures c.in-Some-failing_in_conds.ensures)

pub returns-in-Some-failing_in_group : goal.returns-in-Some-failing_in_group
returns-in-Some-failing_in_group c =
    let t = c.args.test in
    let d = c.args.decl.now in
    let s = c.args.statement.now in
    sym (items_then t d s c.items_of.result.now None c.items_of.ensures c.in_default.ensures
    ∙ conds_then t d s c.conds_of.result.now None c.conds_of.ensures c.in_default-failing_in_conds.ensures
    ∙ group_then t d s c.group_of.result.now
    (Some c.in-Some-failing_in_group.name.now) c.group_of.ensures c.in-Some-failing_in_group.ensures)

pub returns-in-Some-failing_in_having : goal.returns-in-Some-failing_in_having
returns-in-Some-failing_in_having c =
    let t = c.args.test in
    let d = c.args.decl.now in
    let s = c.args.statement.now in
    sym (items_then t d s c.items_of.result.now None c.items_of.ensures c.in_default.ensures
    ∙ conds_then t d s c.conds_of.result.now None c.conds_of.ensures c.in_default-failing_in_conds.ensures
    ∙ group_then t d s c.group_of.result.now None c.group_of.ensures c.in_default-failing_in_group.ensures
    ∙ having_then t d s _
    (Some c.in-Some-failing_in_having.name.now) c.having_of.ensures c.in-Some-failing_in_having.ensures)

pub returns : goal.returns
returns c =
    let t = c.args.test in
    let d = c.args.decl.now in
    let s = c.args.statement.now in
    sym (items_then t d s c.items_of.result.now None c.items_of.ensures c.in_default.ensures
    ∙ conds_then t d s c.conds_of.result.now None c.conds_of.ensures c.in_default-failing_in_conds.ensures
    ∙ group_then t d s c.group_of.result.now None c.group_of.ensures c.in_default-failing_in_group.ensures
    ∙ having_then t d s _ None c.having_of.ensures c.in_default-failing_in_having.ensures
    ∙ ap (λ items. first_failing t d (flat_map item_uses items)) (sym c.order_of.ensures)
    ∙ sym c.failing_in_order.ensures)
