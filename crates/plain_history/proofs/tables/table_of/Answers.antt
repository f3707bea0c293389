use Rattle.std.proofs.Common.{map}
use Rattle.plain_history.proofs.KeyPlaces.{one_line_is}
use Rattle.plain_history.proofs.tables.table_of.Goals as goal

pub returns-in-empty : goal.returns-in-empty
returns-in-empty c =
    rw (← one_line_is c.args.group.now c.args.items.now (map (λ r. r.now) c.args.rows.now) c.in-empty.len_below) c.one_line.ensures
