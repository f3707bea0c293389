use Rattle.std.proofs.Common.{◌+◌}
use Rattle.opened_core.proofs.OpenedCells.{AreFirstCells, FirstTakeAll}
use Rattle.opened_core.proofs.cells.opening_cells.Given as goal

abbrev pub invariant-shards : goal.invariant-shards
invariant-shards l =
    AreFirstCells l.kept l.shards l.sessions (2 + l.number) l.cells.items × FirstTakeAll l.kept l.shards l.number

abbrev pub invariant-mails : goal.invariant-mails
invariant-mails l = AreFirstCells l.kept l.shards l.sessions (2 + l.shards + l._number) l.cells.items
