use Rattle.std.proofs.Common.{◌+◌, ◌≤◌, arith}
use Rattle.run_threads.proofs.law.callers_of_an_opened_core_may_begin.Goals as goal

pub returns-clause-main : goal.returns-clause-main
returns-clause-main g c kept shards sessions callers cells over opens some all =
    let e = c.an_opened_core_knows_its_callers.ensures in
    let first : 0 ≤ sessions = omega arith in let own : 0 ≤ sessions + 1 = omega arith in
    record {
      all = all;
      some = some;
      client = e.client kept shards sessions 0 cells over opens first;
      mail = e.mail kept shards sessions shards cells over (omega arith);
      mails = e.mails kept shards sessions 0 cells over own;
    }

pub returns-clause-worker : goal.returns-clause-worker
returns-clause-worker g c kept shards sessions callers number cells over opens there all = record {
  all = all;
  there = there;
  worker = c.an_opened_core_knows_its_callers.ensures.worker kept shards sessions number cells over opens there;
}

pub returns-clause-flusher : goal.returns-clause-flusher
returns-clause-flusher g c kept shards sessions callers maker cells over opens some all keeps =
    let e = c.an_opened_core_knows_its_callers.ensures in
    record {
      all = all;
      some = some;
      flusher = e.flusher kept shards sessions cells over opens;
      mail = e.mail kept shards sessions shards cells over (omega arith);
      mails = e.mails kept shards sessions (sessions + 1) cells over (omega arith);
      keeps = keeps;
    }
