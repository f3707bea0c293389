use Rattle.cube_journal.proofs.Digits.{decimal-0, decimal-1, decimal-2}
use Rattle.cube_journal.proofs.written_entries.journal_as_written.Goals as goal

pub returns-clause-journal : goal.returns-clause-journal
returns-clause-journal c = simp (decimal-1, decimal-2)

pub returns-clause-end : goal.returns-clause-end
returns-clause-end c = simp (decimal-0, decimal-1, decimal-2)
