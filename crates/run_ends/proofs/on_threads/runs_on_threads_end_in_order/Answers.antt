use Rattle.run_ends.proofs.OnThreads.{ended-at, flushes-last}
use Rattle.run_ends.proofs.on_threads.runs_on_threads_end_in_order.Goals as goal

pub returns-clause-purged : goal.returns-clause-purged
returns-clause-purged g c =
    λ shards sessions cells works maker ran o h r opens same began.
    ended-at shards sessions cells works maker ran h o opens same r began

pub returns-clause-flushed : goal.returns-clause-flushed
returns-clause-flushed g c =
    λ shards sessions cells works maker ran o how h opens same is.
    flushes-last shards sessions cells works maker ran h o opens same how is
