use Rattle.std.proofs.Common.{arith}
use Rattle.round_fields.proofs.FieldLaws.{eight_left}
use Rattle.round_text.proofs.header_reading.second_of_size.Goals as goal

pub header_of_text-requires-clause-left : goal.header_of_text-requires-clause-left
header_of_text-requires-clause-left c = let left = eight_left _ _ _ c.in-Ok.ensures in omega (arith, left, c.requires)
