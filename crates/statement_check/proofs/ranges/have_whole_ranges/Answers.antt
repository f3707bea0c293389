use Rattle.statement_check.proofs.Agreement.{whole_ranges}
use Rattle.statement_check.proofs.ranges.have_whole_ranges.Goals as goal

pub returns : goal.returns
returns c =
    let whole = whole_ranges c.args.conds.now c.args.dim.now c.requires in
    ((λ passes. whole.0 (c.agree_for_all.ensures.0 passes)), (λ h. c.agree_for_all.ensures.1 (whole.1 h)))
