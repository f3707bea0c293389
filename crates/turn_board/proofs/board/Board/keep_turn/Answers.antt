use Rattle.turn_board.proofs.Serving.{keeps_turn}
use Rattle.turn_board.proofs.board.Board.keep_turn.Goals as goal

pub returns-then-look_to_keep-ticket-clause-kept : goal.returns-then-look_to_keep-ticket-clause-kept
returns-then-look_to_keep-ticket-clause-kept g c =
    keeps_turn c.args.cell c.draw-ticket.result c.look_to_keep.result c.args.seat.now.me c.loop.seat.me
    c.look_to_keep.new.seat.me c.loop.invariant.1 c.look_to_keep.ensures.looked c.if-look_to_keep-ticket.true
