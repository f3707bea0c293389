use Rattle.std.proofs.Common.{sym, ap, ◌∙◌, subst}
use Rattle.std.specs.Mem.Slots.{slots_items}
use Rattle.turn_board.specs.Calls.{IsShut}
use Rattle.turn_board.specs.Lanes.{lane_values}
use Rattle.turn_board.proofs.Ends.{closes, shut_is}
use Rattle.turn_board.proofs.board.Board.shut.Goals as goal

pub returns : goal.returns
returns g c =
    let b = c.args.self in let step = g.C.Cells.step in let fits = g.C.Cells.fits in let opening =
    b.table.shared.key.cells.value.items in let callers = b.table.shared.key.callers in
    let m = c.into_parts-seat.result.2.me in let m' = c.keep_all.new.seat.me in let kept = c.keep_all.ensures.kept in
    let lanes = slots_items c.close_with.result.slots in
    let closed = closes step fits opening callers c.keep_all.new.seat.id m'.0
    (slots_items c.close_with.result.words) lanes kept.stage
    (c.keep_all.ensures.all ∙ b.counted) c.close_with.ensures.values.2 in
    let shut = shut_is step fits opening callers m.0 m'.0 lanes kept.past kept.hands closed in
    subst (λ cells. IsShut step fits callers opening c.args.pass.seat.me.0 cells) (sym c.empty.ensures)
    (subst (λ v. IsShut step fits callers opening v (lane_values lanes))
    (ap (λ s. s.me.0) c.into_parts-seat.ensures.seat) shut)
