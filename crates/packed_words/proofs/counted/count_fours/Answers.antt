use Rattle.std.proofs.Common.{◌≡◌, ◌+◌, ◌*◌, ◌/◌, ◌%◌, ◌^◌, ◌<◌, ◌≤◌, length, get_or, sym, ap, ◌∙◌, arith, mul-le-mul_right}
use Rattle.std.proofs.Math.Nat.{add-mul}
use Rattle.std.proofs.lemmas.Nat.{pow_pos, mod_below}
use Rattle.cube_values.specs.BitRows.{is_set}
use Rattle.packed_words.proofs.Shifts.{has_shr, has_low_part}
use Rattle.packed_words.proofs.CountedSums.{same_number}
use Rattle.packed_words.proofs.counted.count_fours.Goals as goal

pub fours-preserved : goal.fours-preserved
fours-preserved c =
    let l = c.fours in
    let words = c.args.words.now in
    let step = c.args.step in
    let width = c.args.width in
    let word = c.word_at-word.result in
    record {
      done = omega arith;
      long = c.count_four.ensures.long ∙ l.invariant.long;
      room = c.count_four.ensures.room;
      counted = λ cells long at.
          c.count_four.ensures.counted cells long
          (λ j h.
          let there : l.done + j < length cells = omega arith in
          let less : j * step ≤ 3 * step = mul-le-mul_right step (omega arith) in
          same_number width (get_or cells (l.done + j) 0) (word / 2 ^ (j * step) % 2 ^ width) (at.below (l.done + j) there) (mod_below (word / 2 ^ (j * step)) (2 ^ width) (pow_pos width))
          (λ b hb.
          let place : c.args.place + (l.done + j) * step + b ≡ c.args.place + l.done * step + (j * step + b) = omega (arith, add-mul l.done j step) in
          at.bits (l.done + j) b there hb
          ∙ ap (is_set words) place
          ∙ sym (has_low_part (word / 2 ^ (j * step)) width b hb ∙ has_shr word (j * step) b ∙ c.word_at-word.ensures (j * step + b) (omega (arith, less)))))
          (l.invariant.counted cells long at);
    }
