use Rattle.std.proofs.Common.{arith}
use Rattle.turn_board.proofs.Settling.{settles}
use Rattle.turn_board.proofs.board.Board.settle.Goals as goal

pub load-requires : goal.load-requires
load-requires g c =
    let b = c.args.self.now in let words = b.words in let some = b.some in (
      c.requires.table,
      omega arith,
      settles g.C.Cells.step g.C.Cells.fits b.table.shared.key.cells.value.items b.table.shared.key.callers
          b.table.shared.table_id.slots c.args.seat.now.id 0 c.args.seat.now.me c.requires.hands,
    )
