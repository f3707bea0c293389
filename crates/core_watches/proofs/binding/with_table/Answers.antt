use Rattle.std.proofs.Common.{refl}
use Rattle.core_watches.proofs.binding.with_table.Goals as goal

pub returns : goal.returns
returns c = record { watch_is = refl; makes = c.in_ok-table.ensures }
