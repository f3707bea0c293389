use Rattle.std.proofs.Common.{sym}
use Rattle.brick_columns.proofs.WholeRows.{seen_length}
use Rattle.brick_columns.proofs.columns.Columns.len.Goals as goal

pub returns-clause-len : goal.returns-clause-len
returns-clause-len c = sym (seen_length c.self.inside c.args.self.now c.self.invariant c.self.view_is)
