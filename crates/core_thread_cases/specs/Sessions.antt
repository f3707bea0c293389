-- The sessions of a core in cases, and a core without a store.
-- Source: this project's own.
use Rattle.std.specs.Prelude.{◌≡◌, ℕ, ◌+◌, ◌≤◌}
use Rattle.core_program.specs.Knowing.{IsClientOf, IsMailAt, IsSessionOf, ServesClient}
use Rattle.flush_loop.specs.MadeRounds.{KeptClaim}
use Rattle.flush_loop.specs.PlainRounds.{HasLostNone}
use Rattle.flush_loop.specs.declared.no_store.NoStore.{NoStore}
use Rattle.linked_shards.specs.CellShards.{CoreShardStands}
use Rattle.run_threads.specs.CoreWorks.{OpeningCells}
use Rattle.shard_events.specs.ShardsInRuns.{FitsShard, ShardAnswerSays}
use Rattle.threaded_core.specs.RanCores.{MayRun}
use Rattle.threaded_core.specs.declared.cores.ReadyCore.{ReadyCore}
use Rattle.core_thread_cases.specs.declared.committing.Committer.{Committer}

-- The caller is a session by its own number, which may ask for rounds.
pub record MayAskRounds (shards sessions callers : ℕ) (cells : OpeningCells) (caller : ℕ) : Type 0 where
  pub all : sessions + 2 + shards ≤ callers
  pub client : IsClientOf FitsShard CoreShardStands ShardAnswerSays cells caller caller
  pub session : IsSessionOf FitsShard CoreShardStands ShardAnswerSays cells caller
  pub mail : IsMailAt FitsShard CoreShardStands ShardAnswerSays cells shards (2 + shards + shards)
  pub serves : ServesClient FitsShard CoreShardStands ShardAnswerSays cells caller shards

-- So may the session with this work, as the caller of its number.
abbrev pub committer_may : Committer → ℕ → OpeningCells → ℕ → Type 0
committer_may w callers cells caller =
    (caller ≡ w.session) × MayAskRounds w.size.shards w.size.sessions callers cells w.session

-- Without a store nothing is asked of the cells, and no round is lost to a disk.

abbrev pub serves_any : NoStore → OpeningCells → Type 0
serves_any maker cells = Unit {0}

abbrev pub keeps_none : NoStore → NoStore → KeptClaim
keeps_none begun maker kept o run calls = HasLostNone o calls

-- A core of such sessions may run without a store.
abbrev pub CommittersMayRun : ReadyCore Committer NoStore → Type 0
CommittersMayRun core = MayRun committer_may serves_any keeps_none core.size.shards core.size.sessions core.cells.items
    core.sessions.items core.maker
