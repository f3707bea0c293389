use Rattle.std.specs.Vec.{vec_capacity}
use Rattle.packed_words.proofs.BitParts.{bits_none, packed_none}
use Rattle.packed_words.proofs.packed_words.PackedWords.new.Goals as goal

pub invariant_of-result : goal.invariant_of-result
invariant_of-result c = rw c.new.ensures.items (packed_none (vec_capacity c.new.result))

pub returns : goal.returns
returns c = λ t. record { bits = bits_none c.new.result.items t; room = 0 }
