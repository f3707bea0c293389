-- What the flusher may reply to a FLUSH, and which events leave its round and that FLUSH as they are.
--
--   since it took the FLUSH it                  it may reply
--   was told that there is nothing to save      Done
--   opened a round, and closed it as safe       Done
--
-- Once it lost a round to the disk, before or since, it may reply StoreLost, and always that it was out of memory.
-- Source: this project's own.
use Rattle.std.specs.Prelude.{◌≢◌}
use Rattle.core_events.specs.Events.{Opening, flush_mail, RoundOpen, RoundClose, ClientCall, OnDesk, Take, CoreEvent, By, At}

-- The call neither opens nor closes a round.
abbrev pub IsWithinRound : ClientCall → Type 0
IsWithinRound (OnDesk (RoundOpen answer)) = ⊥
IsWithinRound (OnDesk (RoundClose epoch end)) = ⊥
IsWithinRound c = Unit {0}

-- By the event the flusher takes no FLUSH.
abbrev pub TakesNoFlush : Opening → CoreEvent → Type 0
TakesNoFlush o (At mail (Take client job)) = mail ≢ flush_mail o
TakesNoFlush o event = Unit {0}

-- Nor does it open or close a round.
abbrev pub LeavesRound : Opening → CoreEvent → Type 0
LeavesRound o (By client c) = IsWithinRound c
LeavesRound o (At mail move) = TakesNoFlush o (At mail move)
