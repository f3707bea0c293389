use Rattle.turn_board.proofs.Serving.{takes_turn}
use Rattle.turn_board.proofs.board.Board.take_turn.Goals as goal

pub returns-then-look-ticket-clause-turn : goal.returns-then-look-ticket-clause-turn
returns-then-look-ticket-clause-turn g c =
    takes_turn g.C.Cells.can g.C.Cells.fits c.args.cell c.draw-ticket.result c.look.result c.args.seat.now.me
    c.loop.seat.me c.look.new.seat.me c.requires.idle c.loop.invariant.1 c.look.ensures.looked c.if-look-ticket.true
