use Rattle.std.proofs.Common.{sym, ap, ◌∙◌, ◌≡◌, [], ◌∷◌}
use Rattle.atomic_table.specs.Table.{rest}
use Rattle.turn_board.proofs.board.Board.apply.Goals as goal

pub slot_mut-lane-requires : goal.slot_mut-lane-requires
slot_mut-lane-requires g c = let t = c.requires.turn in
    (c.requires.table, (t.0, t.1 ∙ ap (λ l. (c.args.cell, t.0) ∷ rest l) (sym t.1)))

pub returns-clause-stepped : goal.returns-clause-stepped
returns-clause-stepped g c =
    let t = c.requires.turn in let none-left : rest c.args.seat.now.me.1 ≡ [] = ap rest t.1 in let lane =
    c.slot_mut-lane.result.now in record {
      lane = lane;
      lane' = record { value = c.apply.new.cell; room = lane.room };
      before = c.slot_mut-lane.ensures.value ∙ ap (λ l. (c.args.cell, lane) ∷ l) none-left;
      after = ap (λ l. (c.args.cell, record { value = c.apply.new.cell; room = lane.room }) ∷ l) none-left;
      stepped = c.apply.ensures;
    }
