use Rattle.std.proofs.Common.{◌≡◌, take}
use Rattle.cube_journal.specs.Counters.{snapshots_without}
use Rattle.plain_journal.proofs.state.snapshots_without.Given as goal

abbrev pub invariant-loop-o : goal.invariant-loop-o
invariant-loop-o l = l.left.items ≡ snapshots_without l.session (take l.o-index l.snapshots)
