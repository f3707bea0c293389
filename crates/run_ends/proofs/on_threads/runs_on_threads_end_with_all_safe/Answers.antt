use Rattle.std.proofs.Common.{◌+◌}
use Rattle.core_records.specs.CoreRecords.{record_of}
use Rattle.cube_journal.specs.declared.counters.Counters.{Counters}
use Rattle.ended_sessions.proofs.EndHolds.{nothing-held}
use Rattle.run_ends.proofs.AllSafe.{ends-with-all-safe}
use Rattle.run_ends.proofs.OnThreads.{ended-run, flushes-last, some-and, told}
use Rattle.run_ends.specs.AllSafeEnds.{EndsWithAllSafe}
use Rattle.run_ends.proofs.on_threads.runs_on_threads_end_with_all_safe.Goals as goal

pub returns : goal.returns
returns g c =
    λ shards sessions epoch cells works maker ran o how given h r opens same began last is scripted merge.
    let t = told shards sessions cells works maker ran h o opens same began in
    some-and (λ (counters : Counters). EndsWithAllSafe (record_of o given r.to.es) counters ran.left.desk
    ran.left.shards.items) ran.counters t.0 t.1
    (ends-with-all-safe o t.0 (sessions + 2 + shards) cells h.left h.log r.to.es
    (ended-run shards sessions cells works maker ran h o opens same t.0 r began t.1) ran.left h.parts r.desk r.as_many
    given scripted how epoch (flushes-last shards sessions cells works maker ran h o opens same how last)
    (nothing-held o given r.to.es r.to.run scripted.follow.each merge) is)
