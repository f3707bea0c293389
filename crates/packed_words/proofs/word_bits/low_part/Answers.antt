use Rattle.std.proofs.Common.{arith}
use Rattle.packed_words.proofs.Shifts.{masked}
use Rattle.packed_words.proofs.word_bits.low_part.Goals as goal

pub returns-else-width-eq64 : goal.returns-else-width-eq64
returns-else-width-eq64 c = masked c.args.word c.args.width (omega arith)
