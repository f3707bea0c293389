-- Empty lists with room for a run.
-- Source: this project's own.
use Rattle.std.specs.Prelude.{◌≡◌, ℕ, ◌≤◌, [], vec_capacity}
use Rattle.threaded_core.specs.declared.room.RunRoom.{RunRoom}

-- Room for so many shards and sessions.
pub record IsRoomFor {W G : Type 0} (shards sessions : ℕ) (room : RunRoom W G) : Type 0 where
  pub no_session : room.sessions.items ≡ []
  pub for_sessions : sessions ≤ vec_capacity room.sessions
  pub no_worker : room.workers.items ≡ []
  pub for_workers : shards ≤ vec_capacity room.workers
  pub no_work : room.works.items ≡ []
  pub for_works : sessions ≤ vec_capacity room.works
  pub no_shard : room.shards.items ≡ []
  pub for_shards : shards ≤ vec_capacity room.shards
