use Rattle.std.proofs.Common.{arith}
use Rattle.round_fields.proofs.FieldLaws.{four_left}
use Rattle.round_text.proofs.header_reading.second_header.Goals as goal

pub second_of_size-requires : goal.second_of_size-requires
second_of_size-requires c =
    let left = four_left _ _ _ c.in-Ok.ensures in
    omega (arith, left, c.split_at.ensures.back_len, c.split_at.ensures.front_len)
