use Rattle.std.proofs.Common.{◌+◌, List, [], refl, subst}
use Rattle.core_events.specs.Clients.{calls_of}
use Rattle.core_events.specs.Events.{CoreEvent}
use Rattle.cube_rounds.specs.Stands.{kept_of_cubes}
use Rattle.flush_loop.specs.PlainRounds.{HasLostNone}
use Rattle.opened_rounds.proofs.law.a_core_without_a_store_keeps_no_rounds.Goals as goal

pub returns : goal.returns
returns c = λ sessions caller cells maker. record {
  serves_core = tt;
  kept = record {
    kept = kept_of_cubes [];
    in_runs = λ o log run es later are.
        subst (λ (l : List CoreEvent). HasLostNone o (calls_of (sessions + 1) l)) are refl;
  };
}
