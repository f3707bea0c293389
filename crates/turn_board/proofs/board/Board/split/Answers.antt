use Rattle.std.proofs.Common.{ℕ, ◌-◌, arith, sym, ap, ◌∙◌, map, take, drop}
use Rattle.turn_board.specs.Hands.{hand_number}
use Rattle.turn_board.proofs.Chains.{map_take, map_drop}
use Rattle.turn_board.proofs.Gathering.{first_idle, first_count, last_idle, last_count}
use Rattle.turn_board.proofs.board.Board.split.Goals as goal

pub invariant_of-pass : goal.invariant_of-pass
invariant_of-pass g c =
    let p = c.args.pass.now in let v = p.seat.me.0 in let m = c.split_seat-seat.new.seat.me in let keep : ℕ =
    p.count - c.args.give in
    let count = p.counted in let spare = c.requires.spare in let some = c.requires.some in let idle = p.idle in
    let kept = c.split_seat-seat.ensures.kept in record {
      idle = first_idle v m keep kept idle.also (omega arith) (omega arith);
      unshut = ap (λ z. z.0.shut) kept ∙ p.unshut;
      numbered = c.cut-numbers.ensures.first
          ∙ (ap (take keep) p.numbered
          ∙ (sym (map_take keep v.hands) ∙ sym (ap (λ z. map hand_number z.0.hands) kept)));
      counted = sym (first_count v m keep kept (omega arith));
    }

pub invariant_of-result : goal.invariant_of-result
invariant_of-result g c =
    let p = c.args.pass.now in let v = p.seat.me.0 in let m = c.split_seat-seat.result.me in let keep : ℕ =
    p.count - c.args.give in
    let count = p.counted in let spare = c.requires.spare in let some = c.requires.some in let idle = p.idle in
    let given = c.split_seat-seat.ensures.given in record {
      idle = last_idle v m keep given idle.also (omega arith);
      unshut = ap (λ z. z.0.shut) given ∙ p.unshut;
      numbered = c.cut-numbers.ensures.others
          ∙ (ap (drop keep) p.numbered
          ∙ (sym (map_drop keep v.hands) ∙ sym (ap (λ z. map hand_number z.0.hands) given)));
      counted = let l = last_count v m keep given in omega arith;
    }
