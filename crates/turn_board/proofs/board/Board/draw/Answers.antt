use Rattle.std.proofs.Common.{arith}
use Rattle.turn_board.proofs.Drawing.{draws}
use Rattle.turn_board.proofs.board.Board.draw.Goals as goal

pub fetch_add-requires : goal.fetch_add-requires
fetch_add-requires g c =
    let b = c.args.self.now in let words = b.words in let count = b.counted in let inside = c.requires.cell in (
      c.requires.table,
      omega arith,
      draws g.C.Cells.step g.C.Cells.fits b.table.shared.key.cells.value.items b.table.shared.key.callers
          b.table.shared.table_id.slots c.args.seat.now.id c.args.cell c.args.seat.now.me (omega arith)
          c.requires.idle.stage c.requires.behind c.requires.idle.hands,
    )
