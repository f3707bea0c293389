use Rattle.std.proofs.Common.{◌≡◌, length}
use Rattle.cube_journal.specs.Legal.{ends_safe}
use Rattle.plain_journal.proofs.since.ends_safe.Given as goal

abbrev pub invariant-entries : goal.invariant-entries
invariant-entries l = ends_safe l.left ≡ ends_safe l.fn.entries

abbrev pub decreases-entries : goal.decreases-entries
decreases-entries l = length l.left
