-- The operations of a transaction, read off the calls of the session that opened it.
-- Source: AOSI (ICDE 2018), the operations of a transaction; groups of jobs are this project's own.
use Rattle.std.specs.Prelude.{ℕ, List, [], ◌∷◌}
use Rattle.core_events.specs.Events.{Opening, ClientCall}
use Rattle.core_events.specs.Groups.{has_ended}
use Rattle.core_events.specs.Clients.{state_from_calls}
use Rattle.core_events.specs.Serial.{CubeOperation, operations_after}

-- The operations of an epoch on a cube by the calls of one client, the newest first.
abbrev pub operations_by_calls : Opening → ℕ → ℕ → List ClientCall → ℕ → List CubeOperation
operations_by_calls o client cube [] e = []
operations_by_calls o client cube (call ∷ calls) e =
    operations_after cube e (has_ended o.shards (state_from_calls o client calls).group) call
    (operations_by_calls o client cube calls e)
