use Rattle.std.proofs.Common.{sym, arith}
use Rattle.brick_columns.proofs.InPlace.{moves_next}
use Rattle.brick_columns.proofs.lists.keep_items.Goals as goal

pub loop-i-preserved : goal.loop-i-preserved
loop-i-preserved g c =
    let l = c.loop-i in
    let item = c.index-items-i in
    rw c.from-left.ensures (moves_next c.args.bits.now.bits c.args.items.now l.items l.i l.left c.get.result item.result (omega arith) (omega arith) (sym c.get.ensures) item.is l.invariant)
