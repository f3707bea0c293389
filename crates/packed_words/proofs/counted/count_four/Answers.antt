use Rattle.std.proofs.Common.{◌≡◌, ◌+◌, ◌*◌, ◌/◌, ◌%◌, ◌^◌, ◌<◌, pos, ◌+ℤ◌, length, get_or, set, All, bit_and, sym, ap, subst, ◌∙◌, arith, suc-mul}
use Rattle.std.proofs.lemmas.Nat.{shr-shr, pow_pos, mod_below, and_mask}
use Rattle.std.proofs.lemmas.List.{length-set}
use Rattle.packed_words.specs.Counted.{AreAddedUpTo}
use Rattle.packed_words.proofs.CountedSums.{added_more, held_number, room_more}
use Rattle.packed_words.proofs.counted.count_four.Goals as goal

pub numbers-preserved : goal.numbers-preserved
numbers-preserved c =
    let l = c.numbers in
    let numbers = c.args.numbers.now in
    let from = c.args.from in
    let step = c.args.step in
    let width = c.args.width in
    let w = c.counted_number.result in
    let k = bit_and l.left c.args.mask in
    let cell : k ≡ l.left % 2 ^ width = ap (bit_and l.left) c.requires.mask ∙ and_mask l.left width in
    let inside : k < length l.sums = omega (arith, cell, mod_below l.left (2 ^ width) (pow_pos width), c.requires.cells, l.invariant.long) in
    let value = c.counted_number.ensures.value ∙ ap (λ n. pos (2 ^ 52) +ℤ n) (held_number (get_or numbers (from + l.j) (pos 0)) (c.requires.short (from + l.j) (pos 0) (omega arith))) in
    let next : from + l.j + 1 ≡ from + (l.j + 1) = omega arith in
    let place : l.j * step + step ≡ (l.j + 1) * step = omega (arith, suc-mul l.j step) in
    record {
      long = length-set l.sums k _ ∙ l.invariant.long;
      left = ap (λ x. x / 2 ^ step) l.invariant.left ∙ shr-shr c.args.word (l.j * step) step ∙ ap (λ e. c.args.word / 2 ^ e) place;
      room = subst (λ n. All (λ sum. sum < (n + 1) * 2 ^ 53) (set l.sums k (get_or l.sums k 0 + w))) next (room_more (from + l.j) l.sums k w inside c.counted_number.ensures.below l.invariant.room);
      counted = λ cells long are before.
          let is : get_or cells (from + l.j) 0 ≡ k = are l.j (omega arith) ∙ ap (λ x. x % 2 ^ width) (sym l.invariant.left) ∙ sym cell in
          let there : get_or cells (from + l.j) 0 < length l.sums = omega (arith, is, inside) in
          subst (λ n. AreAddedUpTo n cells numbers (set l.sums k (get_or l.sums k 0 + w))) next
          (subst (λ i. AreAddedUpTo (from + l.j + 1) cells numbers (set l.sums i (get_or l.sums i 0 + w))) is
          (added_more (from + l.j) cells numbers l.sums w (omega arith) (omega arith) there value (l.invariant.counted cells long are before)));
    }
