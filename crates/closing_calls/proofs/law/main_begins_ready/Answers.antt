use Rattle.std.proofs.Common.{◌≡◌, true, List, refl, subst}
use Rattle.core_events.specs.Clients.{calls_of, state_from_calls}
use Rattle.core_events.specs.Events.{CoreEvent}
use Rattle.core_events.specs.Groups.{is_ready}
use Rattle.closing_calls.proofs.law.main_begins_ready.Goals as goal

pub returns : goal.returns
returns c = λ cells o log run es later are.
    subst (λ (l : List CoreEvent). is_ready o.shards (state_from_calls o 0 (calls_of 0 l)).group ≡ true) are refl
