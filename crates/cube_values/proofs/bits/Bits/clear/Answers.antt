use Rattle.std.proofs.Common.{arith, ◌≡◌, length, false}
use Rattle.std.proofs.lemmas.List.{take_at}
use Rattle.cube_values.proofs.BitWords.{bits_all}
use Rattle.cube_values.proofs.bits.Bits.clear.Goals as goal

pub returns-clause-bits : goal.returns-clause-bits
returns-clause-bits c =
    let e : length c.put_front.new.words ≡ c.self.inside.words.len = omega arith in
    rw (take_at c.put_front.new.words _ c.self.inside.words.len e) (bits_all c.put_front.new.words c.args.len false c.put_front.ensures.front)
