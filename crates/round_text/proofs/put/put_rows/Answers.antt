use Rattle.std.proofs.Common.{arith}
use Rattle.round_text.proofs.EntryWrites.{row_put}
use Rattle.round_text.proofs.put.put_rows.Goals as goal

pub rows-preserved : goal.rows-preserved
rows-preserved c =
    row_put c.args.out.now.items c.rows.out.items c.put_row.new.out.items c.args.from c.rows.i c.args.rows.now.rows
    (omega arith) (omega arith) c.rows.invariant c.in_ok-put_row.ensures
