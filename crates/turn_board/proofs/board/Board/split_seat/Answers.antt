use Rattle.std.proofs.Common.{arith}
use Rattle.turn_board.proofs.Sharing.{splits}
use Rattle.turn_board.proofs.board.Board.split_seat.Goals as goal

pub split_seat-requires : goal.split_seat-requires
split_seat-requires g c =
    let b = c.args.self.now in let words = b.words in let some = b.some in let m = c.requires.more in let keep =
    c.requires.keep in (
      c.requires.table,
      omega arith,
      splits g.C.Cells.step g.C.Cells.fits b.table.shared.key.cells.value.items b.table.shared.key.callers
          c.args.seat.now.id g.E.Cutting.count c.args.seat.now.me.0
          c.requires.idle.stage c.requires.unshut c.requires.idle.hands (omega arith),
    )
