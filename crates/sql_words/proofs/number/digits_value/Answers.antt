use Rattle.std.proofs.Common.{◌≡◌, get_or, arith}
use Rattle.std.specs.Char.{digit_value}
use Rattle.std.proofs.lemmas.Bool.Decides.{nat_tests}
use Rattle.std.proofs.lemmas.Int.Digits.{digits_value_more}
use Rattle.sql_words.proofs.number.digits_value.Goals as goal

pub digits-preserved : goal.digits-preserved
digits-preserved c =
    let digit : digit_value (get_or c.args.digits.now c.digits.digit-index 0) ≡ c.from.result = grind (arith, nat_tests) in
    omega (arith, digits_value_more 10 c.args.digits.now c.digits.digit-index c.digits-test.true, c.in_ok-value.ensures.1, c.in_ok-checked_mul.ensures.1, digit, c.digits.invariant)
