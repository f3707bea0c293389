use Rattle.std.proofs.Common.{◌≡◌, length}
use Rattle.plain_journal.specs.Places.{safe_in}
use Rattle.plain_journal.proofs.since.safe_in.Given as goal

abbrev pub invariant-places : goal.invariant-places
invariant-places l = safe_in l.lse l.session l.epoch l.left ≡ safe_in l.safe l.session l.epoch l.journal

abbrev pub decreases-places : goal.decreases-places
decreases-places l = length l.left
