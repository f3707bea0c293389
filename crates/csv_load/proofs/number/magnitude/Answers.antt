use Rattle.std.proofs.Common.{◌∙◌, sym}
use Rattle.csv_load.proofs.Digits.{digit_at, grows, if_none, stays_wide}
use Rattle.csv_load.proofs.number.magnitude.Goals as goal

pub grown-requires : goal.grown-requires
grown-requires c = digit_at c.args.digits.now c.digits.digit-index 0 c.requires c.digits-test.true

pub returns-in_err-n-clause-none : goal.returns-in_err-n-clause-none
returns-in_err-n-clause-none c =
    if_none c.from_residual.result
    (stays_wide c.args.digits.now c.digits.digit-index c.digits.n c.digits-test.true c.digits.invariant
    c.in_err-n.ensures.none)

pub digits-preserved : goal.digits-preserved
digits-preserved c = grows c.args.digits.now c.digits.digit-index c.digits.n c.digits-test.true c.digits.invariant
    ∙ sym c.in_ok-n.ensures.some
