use Rattle.std.proofs.Common.{arith, ◌-◌}
use Rattle.cube_values.proofs.BitLists.{kept_grown, same_grown}
use Rattle.cube_values.proofs.BitWords.{bits_same}
use Rattle.cube_values.proofs.bits.Bits.reserve.Goals as goal

pub invariant_of-self-then-self-room : goal.invariant_of-self-then-self-room
invariant_of-self-then-self-room c =
    let old = c.self.inside in
    let new = c.resize.new.self in
    kept_grown old.words.items new.items old.len old.room c.args.room c.words_for.result (c.words_for.result - old.words.len) c.self.invariant (omega arith) c.words_for.ensures (omega (arith, new.ok.0, c.in_ok-resize.ensures.len)) c.in_ok-resize.ensures.items

pub returns-in_ok-resize-clause-bits : goal.returns-in_ok-resize-clause-bits
returns-in_ok-resize-clause-bits c =
    let old = c.self.inside in
    rw (← c.self.view_is) (bits_same old.words.items c.resize.new.self.items old.len (λ i _. same_grown old.words.items c.resize.new.self.items c.words_for.result (c.words_for.result - old.words.len) i (omega (arith, c.self.invariant.held)) c.in_ok-resize.ensures.items))
