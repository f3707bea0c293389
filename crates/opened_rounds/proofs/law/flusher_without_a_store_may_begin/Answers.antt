use Rattle.std.proofs.Common.{◌+◌}
use Rattle.opened_rounds.proofs.law.flusher_without_a_store_may_begin.Goals as goal

pub returns : goal.returns
returns c = λ kept shards sessions callers cells maker over opens some all.
    c.callers_of_an_opened_core_may_begin.ensures.flusher kept shards sessions callers maker cells over opens some all
    (c.a_core_without_a_store_keeps_no_rounds.ensures sessions (sessions + 1 + shards) cells maker)
