use Rattle.std.proofs.Common.{arith, ◌≡◌, ◌+◌, ◌≤◌, length, ap, ◌∙◌}
use Rattle.std.proofs.lemmas.List.{take_at}
use Rattle.cube_values.specs.BitRows.{BitRows, IsFilled, bits_of}
use Rattle.cube_values.proofs.BitLists.{kept_filled}
use Rattle.cube_values.proofs.BitWords.{bits_filled, bits_length, filled_one}
use Rattle.cube_values.proofs.bits.Bits.set.Goals as goal

pub invariant_of-self : goal.invariant_of-self
invariant_of-self c =
    let old = c.self.inside in
    let f : IsFilled old.words.items c.put_bit.new.words c.args.i (c.args.i + 1) c.args.on = rw c.as_mut_slice.ensures.value at c.put_bit.ensures in
    let e : length c.put_bit.new.words ≡ old.words.len = omega arith in
    let t : c.args.i + 1 ≤ old.len = omega (arith, bits_length old.words.items old.len, ap (λ (r : BitRows). length r.bits) c.self.view_is) in
    rw (take_at c.put_bit.new.words _ old.words.len e) (kept_filled old.words.items c.put_bit.new.words old.len old.room c.args.i (c.args.i + 1) c.args.on c.self.invariant t f)

pub returns-clause-bits : goal.returns-clause-bits
returns-clause-bits c =
    let old = c.self.inside in
    let f : IsFilled old.words.items c.put_bit.new.words c.args.i (c.args.i + 1) c.args.on = rw c.as_mut_slice.ensures.value at c.put_bit.ensures in
    let e : length c.put_bit.new.words ≡ old.words.len = omega arith in
    let l = bits_length old.words.items old.len in
    let t : c.args.i + 1 ≤ old.len = omega (arith, l, ap (λ (r : BitRows). length r.bits) c.self.view_is) in
    rw (take_at c.put_bit.new.words _ old.words.len e, ← c.self.view_is) (bits_filled old.words.items c.put_bit.new.words old.len c.args.i (c.args.i + 1) c.args.on (omega arith) t f ∙ filled_one (bits_of old.words.items old.len) c.args.i c.args.on (omega arith))
