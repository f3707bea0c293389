use Rattle.std.proofs.Common.{◌+◌, List, [], refl, subst, arith}
use Rattle.core_events.specs.Clients.{calls_of}
use Rattle.core_events.specs.Events.{CoreEvent}
use Rattle.stored_rounds.specs.RoundsInStore.{KeepsOfRun}
use Rattle.opened_rounds.proofs.law.a_store_keeps_rounds_of_its_core.Goals as goal

pub returns : goal.returns
returns g c = λ kept shards sessions caller cells maker by over stands. record {
  serves_core = λ o log run opens events is_run.
      c.an_opened_core_opens_for_rounds.ensures kept shards sessions cells by over o log run opens events is_run;
  kept = record {
    kept = kept;
    in_runs = λ o log run es later are.
        subst (λ (l : List CoreEvent). KeepsOfRun g.D.Disk.view maker maker kept o run (calls_of (sessions + 1) l)) are
        (record {
          rounds = record { starts = []; are = refl };
          in_run = c.what_is_kept_is_there_in_each_run.ensures kept shards sessions cells by over o log run later.opens
              later.is_run;
          stands = stands;
          counts = record { first_count = omega arith; second_count = omega arith };
        });
  };
}
