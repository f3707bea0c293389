use Rattle.std.proofs.Common.{sym, ◌∙◌, subst}
use Rattle.turn_board.specs.Hands.{event_of}
use Rattle.turn_board.specs.Seats.{HasAnswered, HasPassedOn}
use Rattle.turn_board.proofs.Serving.{answers, called}
use Rattle.turn_board.proofs.board.Board.call.Goals as goal

pub apply-answer-requires-clause-turn : goal.apply-answer-requires-clause-turn
apply-answer-requires-clause-turn g c = let t = c.take_turn.ensures.turn in let s = t.served in
    (t.lane, s.slots, t.may c.args.call c.requires.fits)

pub pass_on-requires-clause-turn : goal.pass_on-requires-clause-turn
pass_on-requires-clause-turn g c =
    subst (λ q. HasAnswered g.C.Cells.step c.args.cell q c.apply-answer.result c.apply-answer.new.seat.me)
    (sym c.of-asked.ensures)
    (answers g.C.Cells.step g.C.Cells.can g.C.Cells.fits c.args.cell c.args.call c.apply-answer.result
    c.args.pass.now.seat.me c.take_turn.new.seat.me c.apply-answer.new.seat.me
    c.take_turn.ensures.turn c.apply-answer.ensures.view c.apply-answer.ensures.stepped)

pub returns-clause-called : goal.returns-clause-called
returns-clause-called g c = let t = c.take_turn.ensures.turn in let s = t.served in
    called g.C.Cells.step g.C.Cells.fits c.args.cell c.args.call c.apply-answer.result c.args.pass.now.seat.me
    c.apply-answer.new.seat.me c.pass_on.new.seat.me s.ticket t.lane.value
    c.args.pass.now.idle (c.apply-answer.ensures.view ∙ s.view)
    (subst (λ q. HasPassedOn g.C.Cells.step g.C.Cells.fits
    (event_of c.apply-answer.new.seat.me.0.hands c.args.cell q c.apply-answer.result)
    c.apply-answer.new.seat.me c.pass_on.new.seat.me) c.of-asked.ensures c.pass_on.ensures.joined)
