use Rattle.std.proofs.Common.{◌≡◌, length}
use Rattle.plain_journal.specs.Places.{flushed_in}
use Rattle.plain_journal.proofs.since.flushed_in.Given as goal

abbrev pub invariant-places : goal.invariant-places
invariant-places l = flushed_in l.session l.left ≡ flushed_in l.session l.journal

abbrev pub decreases-places : goal.decreases-places
decreases-places l = length l.left
