use Rattle.std.proofs.Common.{subst}
use Rattle.std.specs.Prelude.{All, List}
use Rattle.cube_language.specs.Misfits.{AreAligned}
use Rattle.cube_language.specs.declared.statement.Cond.{Cond}
use Rattle.statement_check.proofs.Order.{ranges_pass}
use Rattle.statement_check.proofs.check.check_ranges.Goals as goal

pub returns-clause-passes : goal.returns-clause-passes
returns-clause-passes c =
    let d = c.args.decl.now in
    let aligned = subst (λ (conds : List Cond). All (AreAligned conds) d.dims) c.deleted_conds.ensures
    c.in_default.ensures in
    ranges_pass d c.args.statement.now c.requires.before aligned
