use Rattle.std.proofs.Common.{◌∙◌, sym}
use Rattle.csv_load.proofs.FewDigits.{digit_read, nothing_read, room_for}
use Rattle.csv_load.proofs.number.few_digits.Goals as goal

pub digits-init : goal.digits-init
digits-init c = nothing_read c.args.bytes.now c.requires

pub longer-n-requires-clause-room : goal.longer-n-requires-clause-room
longer-n-requires-clause-room c =
    room_for c.args.bytes.now c.digits.left.now c.digits.n c.digits.invariant c.in-len1-up.len_at_least

pub digits-preserved : goal.digits-preserved
digits-preserved c =
    digit_read c.args.bytes.now c.digits.left.now c.digits.n c.longer-n.result c.digits.invariant
    c.in-len1-up.len_at_least (sym c.is_ascii_digit.ensures.value ∙ c.if-not-is_ascii_digit.false) c.longer-n.ensures
