use Rattle.std.proofs.Common.{◌≡◌, ◌+◌, ◌^◌, ◌<◌, pos, ◌+ℤ◌, length, get_or, set, sym, ap, subst, ◌∙◌, arith}
use Rattle.std.proofs.lemmas.List.{length-set}
use Rattle.packed_words.specs.Counted.{AreAddedUpTo}
use Rattle.packed_words.proofs.CountedSums.{added_more, held_number, room_more, same_number, counted_all}
use Rattle.packed_words.proofs.counted.count_each.Goals as goal

pub numbers-preserved : goal.numbers-preserved
numbers-preserved c =
    let l = c.numbers in
    let numbers = c.args.numbers.now in
    let w = c.counted_number.result in
    let k = c.read_bits-cell.result in
    let inside : k < length l.sums = omega (arith, c.read_bits-cell.ensures.below, c.requires.cells, l.invariant.long) in
    let value = c.counted_number.ensures.value ∙ ap (λ n. pos (2 ^ 52) +ℤ n) (held_number (get_or numbers l.k (pos 0)) (c.requires.short l.k (pos 0) (omega arith))) in
    record {
      long = length-set l.sums k _ ∙ l.invariant.long;
      room = room_more l.k l.sums k w inside c.counted_number.ensures.below l.invariant.room;
      counted = λ cells long at before.
          let is : get_or cells l.k 0 ≡ k = same_number c.args.width (get_or cells l.k 0) k (at.below l.k (omega arith)) c.read_bits-cell.ensures.below (λ b hb. at.bits l.k b (omega arith) hb ∙ sym (c.read_bits-cell.ensures.bits b hb)) in
          let there : get_or cells l.k 0 < length l.sums = omega (arith, is, inside) in
          subst (λ i. AreAddedUpTo (l.k + 1) cells numbers (set l.sums i (get_or l.sums i 0 + w))) is
          (added_more l.k cells numbers l.sums w (omega arith) (omega arith) there value (l.invariant.counted cells long at before));
    }

pub returns-clause-counted : goal.returns-clause-counted
returns-clause-counted c = λ cells long at before.
    let l = c.numbers in
    let all : l.k ≡ length c.args.numbers.now = omega arith in
    counted_all cells c.args.numbers.now l.sums long c.requires.short c.requires.few
    (subst (λ n. AreAddedUpTo n cells c.args.numbers.now l.sums) all (l.invariant.counted cells long at before))
