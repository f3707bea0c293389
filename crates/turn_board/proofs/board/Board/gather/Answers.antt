use Rattle.std.proofs.Common.{arith, sym, ap, ◌∙◌, map, length}
use Rattle.turn_board.specs.Hands.{hand_number}
use Rattle.turn_board.specs.Rising.{itself, rising_union}
use Rattle.turn_board.proofs.Gathering.{gathered_idle, gathered_shut, gathered_numbers, gathered_count, gathered_few, merged_some}
use Rattle.turn_board.proofs.Sharing.{joins}
use Rattle.turn_board.proofs.board.Board.gather.Goals as goal

pub join_seat-requires : goal.join_seat-requires
join_seat-requires g c =
    let b = c.args.self.now in let words = b.words in let some = b.some in let p = c.args.pass.now in let o =
    c.args.other in
    let idle = p.idle in let idle' = o.idle in let u = c.into_parts-numbers.result.2 in let e =
    c.into_parts-numbers.ensures.seat in (
      c.requires.pass.table,
      ap (λ s. s.table_id) e ∙ c.requires.other.table,
      ap (λ s. s.me.1) e ∙ idle'.slots,
      omega arith,
      joins g.C.Cells.step g.C.Cells.fits b.table.shared.key.cells.value.items b.table.shared.key.callers p.seat.id
          p.seat.me.0 u.id u.me.0 idle.stage p.unshut idle.hands idle.also
          (ap (λ s. s.me.0.stage) e ∙ idle'.stage) (ap (λ s. s.me.0.shut) e ∙ o.unshut)
          (ap (λ s. s.me.0.also) e ∙ idle'.also),
    )

pub settle-requires-clause-hands : goal.settle-requires-clause-hands
settle-requires-clause-hands g c =
    let p = c.args.pass.now in let idle = p.idle in let u = c.into_parts-numbers.result.2 in
    λ z. merged_some p.seat.me.0.hands u.me.0.hands idle.hands (sym (ap (λ m. m.0.hands) c.join_seat.ensures.2) ∙ z)

pub overflow_add-pass : goal.overflow_add-pass
overflow_add-pass g c =
    let p = c.args.pass.now in let o = c.args.other in let u = c.into_parts-numbers.result.2 in let e =
    c.into_parts-numbers.ensures.seat in
    let few = gathered_few g.C.Cells.step g.C.Cells.fits p.seat.me.0 u.me.0 c.join_seat.new.seat.me c.settle.new.seat.me
    p.seat.me.1 c.join_seat.ensures.2 c.settle.ensures.settled in
    let mine = p.counted in let parts = c.into_parts-numbers.ensures.numbers.1 in let theirs = o.counted in let same =
    ap (λ s. length s.me.0.hands) e in omega arith

pub invariant_of-pass : goal.invariant_of-pass
invariant_of-pass g c =
    let p = c.args.pass.now in let o = c.args.other in let v = p.seat.me.0 in let u = c.into_parts-numbers.result.2 in
    let e = c.into_parts-numbers.ensures.seat in let idle = p.idle in
    let m = c.join_seat.new.seat.me in let m' = c.settle.new.seat.me in let cs = p.seat.me.1 in let is =
    c.join_seat.ensures.2 in let settled = c.settle.ensures.settled in
    let mine = p.counted in let parts = c.into_parts-numbers.ensures.numbers in let their = parts.1 in let theirs =
    o.counted in let same = ap (λ s. length s.me.0.hands) e in record {
      idle = gathered_idle g.C.Cells.step g.C.Cells.fits v u.me.0 m m' cs is settled idle.slots idle.hands;
      unshut = gathered_shut g.C.Cells.step g.C.Cells.fits v u.me.0 m m' cs is settled ∙ p.unshut;
      numbered = c.merge.ensures
          ∙ ((λ i. rising_union itself (p.numbered i)
          ((parts.0 ∙ (o.numbered ∙ sym (ap (λ s. map hand_number s.me.0.hands) e))) i))
          ∙ sym (gathered_numbers g.C.Cells.step g.C.Cells.fits v u.me.0 m m' cs is settled));
      counted = let n = gathered_count g.C.Cells.step g.C.Cells.fits v u.me.0 m m' cs is settled in omega arith;
    }
