-- What a session knows once all shards have answered a delta.
-- Source: Cubrick (VLDB 2016), one request that goes to all shards; materialized views kept by their changes (Gupta,
-- Mumick, Subrahmanian, SIGMOD 1993).
use Rattle.std.specs.Prelude.{ℕ, List}
use Rattle.cube_values.specs.declared.query.BoundQuery.{BoundQuery}
use Rattle.core_serial.specs.Deltas.{HasCompared, came_by, went_by}
use Rattle.core_events.specs.Clients.{state_from_calls}
use Rattle.core_events.specs.Events.{Opening, ClientCall}
use Rattle.session_watches.specs.DeltaAnswers.{AreGroupsOfShards}
use Rattle.standing_query.specs.declared.change.Change.{Change}

-- The session has the answers of all shards on what came and went between two readers, and a change stands for the rows
-- that these gave.
pub record HasFoundChange (session : ℕ) (query : BoundQuery) (from to : ℕ) (change : Change) (o : Opening)
    (calls : List ClientCall) : Type 0 where
  pub compared : HasCompared o.shards query from to (state_from_calls o session calls).group
  pub came : AreGroupsOfShards query o.shards (came_by (state_from_calls o session calls).group.answers) change.came.groups
  pub went : AreGroupsOfShards query o.shards (went_by (state_from_calls o session calls).group.answers) change.went.groups
