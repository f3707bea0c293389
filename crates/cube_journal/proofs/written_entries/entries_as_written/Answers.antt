use Rattle.cube_journal.proofs.Digits.{decimal-1, decimal-2, decimal-3, decimal-4, decimal-5, decimal-6, decimal-7, decimal-17}
use Rattle.cube_journal.proofs.written_entries.entries_as_written.Goals as goal

pub returns-clause-begin : goal.returns-clause-begin
returns-clause-begin c = simp (decimal-1, decimal-2, decimal-3)

pub returns-clause-begin_alone : goal.returns-clause-begin_alone
returns-clause-begin_alone c = simp (decimal-1, decimal-2, decimal-3)

pub returns-clause-read : goal.returns-clause-read
returns-clause-read c = simp (decimal-2, decimal-17)

pub returns-clause-read_end : goal.returns-clause-read_end
returns-clause-read_end c = simp (decimal-1, decimal-2)

pub returns-clause-committed : goal.returns-clause-committed
returns-clause-committed c = simp (decimal-1, decimal-2, decimal-3)

pub returns-clause-asked : goal.returns-clause-asked
returns-clause-asked c = simp (decimal-1, decimal-2, decimal-3)

pub returns-clause-end_of_script : goal.returns-clause-end_of_script
returns-clause-end_of_script c = simp (decimal-1, decimal-2, decimal-3)

pub returns-clause-too_many_rejected : goal.returns-clause-too_many_rejected
returns-clause-too_many_rejected c = simp (decimal-1, decimal-2, decimal-3)

pub returns-clause-read_fault : goal.returns-clause-read_fault
returns-clause-read_fault c = simp (decimal-1, decimal-2, decimal-3)

pub returns-clause-no_memory : goal.returns-clause-no_memory
returns-clause-no_memory c = simp (decimal-1, decimal-2, decimal-3)

pub returns-clause-shard_full : goal.returns-clause-shard_full
returns-clause-shard_full c = simp (decimal-1, decimal-2, decimal-3, decimal-4, decimal-5)

pub returns-clause-refused : goal.returns-clause-refused
returns-clause-refused c = simp (decimal-1, decimal-2, decimal-7)

pub returns-clause-cleared : goal.returns-clause-cleared
returns-clause-cleared c = simp (decimal-1, decimal-2)

pub returns-clause-show : goal.returns-clause-show
returns-clause-show c = simp (decimal-1, decimal-2)

pub returns-clause-flushed : goal.returns-clause-flushed
returns-clause-flushed c = simp (decimal-1, decimal-2)

pub returns-clause-purged : goal.returns-clause-purged
returns-clause-purged c = simp (decimal-1, decimal-2, decimal-6)

pub returns-clause-cube : goal.returns-clause-cube
returns-clause-cube c = simp (decimal-1, decimal-2, decimal-3)

pub returns-clause-round : goal.returns-clause-round
returns-clause-round c = simp decimal-6

pub returns-clause-idle : goal.returns-clause-idle
returns-clause-idle c = simp decimal-6

pub returns-clause-safe : goal.returns-clause-safe
returns-clause-safe c = simp decimal-6

pub returns-clause-lost_to_disk : goal.returns-clause-lost_to_disk
returns-clause-lost_to_disk c = simp decimal-6

pub returns-clause-lost_to_memory : goal.returns-clause-lost_to_memory
returns-clause-lost_to_memory c = simp decimal-6
