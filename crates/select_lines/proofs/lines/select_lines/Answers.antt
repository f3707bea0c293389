use Rattle.select_lines.proofs.SelectLines.{comparable, has_room, select_lines_are}
use Rattle.select_lines.proofs.lines.select_lines.Goals as goal

pub finish-requires : goal.finish-requires
finish-requires c =
    has_room c.args.names.now c.args.query.now c.args.plan.now c.args.partial.now.groups c.requires

pub first_rows-requires : goal.first_rows-requires
first_rows-requires c =
    comparable c.args.names.now c.args.query.now c.args.plan.now c.args.partial.now.groups c.in_ok-table.table c.requires
    c.in_ok-table.ensures

pub returns : goal.returns
returns c =
    select_lines_are c.args.names.now c.args.query.now c.args.plan.now c.args.partial.now.groups c.in_ok-table.table
    c.in_ok-first_rows.field-0 c.statements_are_bound_to_what_they_ask.ensures.answers c.in_ok-table.ensures
    c.in_ok-first_rows.ensures
