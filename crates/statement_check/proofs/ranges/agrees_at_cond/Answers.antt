use Rattle.std.proofs.Common.{sym, subst}
use Rattle.std.specs.Prelude.{◌↔◌, All, IsTrue}
use Rattle.cube_language.specs.declared.statement.Cond.{Cond}
use Rattle.statement_check.specs.Adjacent.{AgreesBeside, values_in}
use Rattle.statement_check.proofs.ranges.agrees_at_cond.Goals as goal

pub returns-in-In : goal.returns-in-In
returns-in-In c =
    let all = rw c.as_slice.ensures at c.agrees_beside_values.ensures in
    subst (λ (cond : Cond). IsTrue c.agrees_beside_values.result
    ↔ All (AgreesBeside c.args.conds.now c.args.dim.now) (values_in cond)) (sym c.in-In.is) all
