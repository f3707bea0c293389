use Rattle.std.proofs.Common.{length}
use Rattle.round_text.proofs.EntryWrites.{PutsEntries}
use Rattle.round_text.proofs.put.put_entries.Given as goal

abbrev pub invariant-entries : goal.invariant-entries
invariant-entries l = PutsEntries l.fn.out.items l.entries l.rows.rows l.from l.left l.out.items

abbrev pub decreases-entries : goal.decreases-entries
decreases-entries l = length l.left
