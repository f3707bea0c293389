use Rattle.std.proofs.Common.{ap, arith}
use Rattle.brick_columns.specs.Rows.{BrickRows}
use Rattle.brick_columns.proofs.WholeRows.{seen_length}
use Rattle.brick_columns.proofs.columns.Columns.room.Goals as goal

pub returns : goal.returns
returns c =
    let old = c.self.inside in
    let spare = ap (λ (v : BrickRows). v.spare) c.self.view_is in
    omega (arith, seen_length old c.args.self.now c.self.invariant c.self.view_is, c.self.invariant.within)
