use Rattle.std.proofs.Common.{arith, mul-le-mul_right}
use Rattle.packed_words.proofs.packed_rows.copy_row.Goals as goal

pub overflow_mul-to : goal.overflow_mul-to
overflow_mul-to c = omega (arith, c.requires.small, mul-le-mul_right c.args.width c.requires.down)

pub copy_down-requires-clause-down : goal.copy_down-requires-clause-down
copy_down-requires-clause-down c = mul-le-mul_right c.args.width c.requires.down
