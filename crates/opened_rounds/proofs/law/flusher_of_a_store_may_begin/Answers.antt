use Rattle.std.proofs.Common.{◌+◌}
use Rattle.opened_rounds.proofs.law.flusher_of_a_store_may_begin.Goals as goal

pub returns : goal.returns
returns g c = λ kept shards sessions callers cells maker by over opens some all stands.
    c.callers_of_an_opened_core_may_begin.ensures.flusher kept shards sessions callers maker cells over opens some all
    (c.a_store_keeps_rounds_of_its_core.ensures kept shards sessions (sessions + 1 + shards) cells maker by over stands)
