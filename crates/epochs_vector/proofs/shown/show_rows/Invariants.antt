use Rattle.std.proofs.Common.{◌≡◌, length}
use Rattle.epochs_vector.proofs.VisibleRows.{IsShownSoFar}
use Rattle.epochs_vector.proofs.shown.show_rows.Given as goal

abbrev pub invariant-entries : goal.invariant-entries
invariant-entries l =
    IsShownSoFar l.snapshot l.limit l.entries l.left l.from l.initial.bits.bits l.bits.bits × (l.bits.room ≡ l.initial.bits.room)

abbrev pub decreases-entries : goal.decreases-entries
decreases-entries l = length l.left
