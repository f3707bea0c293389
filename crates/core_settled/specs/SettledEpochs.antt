-- Epochs of which nothing more comes.
-- Source: AOSI (ICDE 2018), EC and the pending transactions; that what is neither to come nor pending stays as it is is
-- this project's own.
use Rattle.std.specs.Prelude.{◌≡◌, ℕ, ◌<◌, false, List}
use Rattle.core_events.specs.Cells.{counters_of_run}
use Rattle.core_events.specs.Events.{Opening, CoreEvent}
use Rattle.core_events.specs.Groups.{has_number}

-- The epoch was given out, and no transaction of it is under way.
pub record IsSettledEpoch (o : Opening) (es : List CoreEvent) (epoch : ℕ) : Type 0 where
  pub given : epoch < (counters_of_run o es).ec
  pub ended : has_number (counters_of_run o es).pending epoch ≡ false
