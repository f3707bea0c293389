use Rattle.std.proofs.Common.{arith}
use Rattle.turn_board.proofs.Looking.{looks}
use Rattle.turn_board.proofs.board.Board.look.Goals as goal

pub load-requires : goal.load-requires
load-requires g c =
    let b = c.args.self.now in let words = b.words in let inside = c.requires.cell in (
      c.requires.table,
      omega arith,
      looks g.C.Cells.step g.C.Cells.fits b.table.shared.key.cells.value.items b.table.shared.key.callers g.C.Cells.can
          g.met.C.Cells.safe b.table.shared.table_id.slots c.args.seat.now.id c.args.cell
          c.requires.queued.0 c.args.seat.now.me c.requires.queued.1 c.requires.hands,
    )
