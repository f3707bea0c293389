-- Snapshots that are held while their session waits for no job.
-- Source: AOSI (ICDE 2018), snapshots of readers and of writers.
use Rattle.std.specs.Prelude.{◌≡◌, ℕ, true, Some}
use Rattle.cube_values.specs.declared.snapshot.Snapshot.{Snapshot}
use Rattle.core_events.specs.Events.{Opening, IsSession}
use Rattle.core_events.specs.Groups.{is_ready}
use Rattle.core_events.specs.Clients.{ClientState, held_under}
use Rattle.core_events.specs.Fitting.{IsNumberOf}

-- A session holds the snapshot under one of its numbers. Its last group of jobs has ended, and no write was refused.
pub record HoldsAtRest (o : Opening) (client : ℕ) (k : ClientState) (s : Snapshot) : Type 0 where
  pub session : IsSession o client
  pub number : ℕ
  pub under : IsNumberOf client number
  pub held : held_under number k.holds ≡ Some s
  pub ready : is_ready o.shards k.group ≡ true
