use Rattle.std.proofs.Common.{sym, subst}
use Rattle.agg_fold.specs.Coded.{texts_for}
use Rattle.agg_fold.specs.Standing.{HasRoom, IsTable}
use Rattle.condition_spans.specs.Codes.{lists_at}
use Rattle.core_selects.proofs.FoundLines.{comparable, first-of-table, room-at}
use Rattle.cube_values.specs.declared.query.BoundQuery.{BoundQuery}
use Rattle.core_selects.proofs.lines.lines_of.Goals as goal

pub finish-requires : goal.finish-requires
finish-requires c =
    subst (λ (q : BoundQuery). HasRoom q 0 c.args.found.now.groups) (sym c.query_at-asked.ensures)
    (room-at 0 c.args.query c.args.found.now.groups c.requires)

pub first_rows-requires : goal.first_rows-requires
first_rows-requires c =
    comparable (record c.args.query { cube = 0 }) (lists_at c.args.names.now 0) c.args.found.now.groups c.in_ok-table.table
    c.in_ok-plan.plan.keys (room-at 0 c.args.query c.args.found.now.groups c.requires)
    (subst (λ (q : BoundQuery). IsTable q (texts_for q c.args.names.now) c.args.found.now.groups c.in_ok-table.table)
    c.query_at-asked.ensures c.in_ok-table.ensures)

pub returns : goal.returns
returns c =
    first-of-table c.args.statement.now 0 c.args.query (lists_at c.args.names.now 0) c.args.found.now.groups
    c.in_ok-plan.plan c.in_ok-table.table c.in_ok-first_rows.field-0
    (subst (λ (q : BoundQuery). IsTable q (texts_for q c.args.names.now) c.args.found.now.groups c.in_ok-table.table)
    c.query_at-asked.ensures c.in_ok-table.ensures)
    c.in_ok-plan.ensures c.in_ok-first_rows.ensures
