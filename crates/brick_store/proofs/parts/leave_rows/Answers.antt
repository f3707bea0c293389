use Rattle.std.proofs.Common.{sym, arith}
use Rattle.brick_store.proofs.Changes.{all_there}
use Rattle.brick_store.proofs.parts.leave_rows.Goals as goal

pub returns-else-ones-len-clause-rows : goal.returns-else-ones-len-clause-rows
returns-else-ones-len-clause-rows c = sym (all_there c.args.keep.now.bits c.args.columns.now.rows c.requires (omega arith))
