use Rattle.cube_journal.proofs.Digits.{decimal-0, decimal-1, decimal-2, decimal-3, decimal-4, decimal-5, decimal-7, decimal-16}
use Rattle.cube_journal.proofs.written_replies.replies_as_written.Goals as goal

pub returns-clause-rows : goal.returns-clause-rows
returns-clause-rows c = simp (decimal-1, decimal-4, decimal-5)

pub returns-clause-average : goal.returns-clause-average
returns-clause-average c = simp (decimal-0, decimal-1, decimal-4, decimal-7)

pub returns-clause-stored : goal.returns-clause-stored
returns-clause-stored c = simp (decimal-1, decimal-2)

pub returns-clause-loaded : goal.returns-clause-loaded
returns-clause-loaded c = simp (decimal-1, decimal-2, decimal-3, decimal-4)

pub returns-clause-dropped : goal.returns-clause-dropped
returns-clause-dropped c = simp decimal-2

pub returns-clause-begun : goal.returns-clause-begun
returns-clause-begun c = simp decimal-2

pub returns-clause-committed : goal.returns-clause-committed
returns-clause-committed c = simp decimal-2

pub returns-clause-rolled_back : goal.returns-clause-rolled_back
returns-clause-rolled_back c = simp decimal-2

pub returns-clause-flushed : goal.returns-clause-flushed
returns-clause-flushed c = simp decimal-2

pub returns-clause-purged : goal.returns-clause-purged
returns-clause-purged c = simp decimal-2

pub returns-clause-epochs : goal.returns-clause-epochs
returns-clause-epochs c = simp (decimal-0, decimal-1, decimal-2, decimal-3, decimal-4)

pub returns-clause-created : goal.returns-clause-created
returns-clause-created c = simp decimal-2

pub returns-clause-watching : goal.returns-clause-watching
returns-clause-watching c = simp (decimal-1, decimal-2)

pub returns-clause-refused : goal.returns-clause-refused
returns-clause-refused c = simp decimal-16
