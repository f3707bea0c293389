use Rattle.std.proofs.Common.{◌≡◌, length}
use Rattle.cube_journal.specs.Counters.{held_by}
use Rattle.journal_cases.proofs.states.held.Given as goal

abbrev pub invariant-snapshots : goal.invariant-snapshots
invariant-snapshots l = held_by l.left l.session ≡ held_by l.fn.snapshots l.session

abbrev pub decreases-snapshots : goal.decreases-snapshots
decreases-snapshots l = length l.left
