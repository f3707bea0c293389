use Rattle.std.proofs.Common.{◌≡◌, ◌++◌, take}
use Rattle.packed_words.specs.Rows.{row_bits, differences}
use Rattle.packed_words.proofs.packed_rows.push_above.Given as goal

abbrev pub invariant-numbers : goal.invariant-numbers
invariant-numbers l =
    l.bits ≡ record l.initial.bits { bits = l.initial.bits.bits ++ row_bits (take l.i l.widths) (take l.i (differences l.numbers l.starts)) }
