use Rattle.cube_core.proofs.Snapshots.{begins, may-write, may-read, writes, reads, no-memory}
use Rattle.cube_core.proofs.holding.sessions_open_snapshots.Goals as goal

pub returns-clause-begins : goal.returns-clause-begins
returns-clause-begins c = begins

pub returns-clause-may_write : goal.returns-clause-may_write
returns-clause-may_write c = may-write

pub returns-clause-may_read : goal.returns-clause-may_read
returns-clause-may_read c = may-read

pub returns-clause-writes : goal.returns-clause-writes
returns-clause-writes c = writes

pub returns-clause-reads : goal.returns-clause-reads
returns-clause-reads c = reads

pub returns-clause-no_memory : goal.returns-clause-no_memory
returns-clause-no_memory c = no-memory
