-- A session whose calls a core over shards serves: what holds of its caller at any of its statements, and stays.
-- Source: this project's own.
use Rattle.std.specs.Prelude.{ℕ, ◌+◌, ◌≤◌, List, Option}
use Rattle.core_program.specs.Knowing.{IsClientOf, IsMailAt, IsSessionOf, ServesClient}
use Rattle.core_names.specs.NamesInTheEnd.{OpenWithNames}
use Rattle.core_program.specs.CoreFits.{CoreEntry}
use Rattle.core_states.specs.LeftBehind.{GoOnByCalls}
use Rattle.core_states.specs.declared.session.CoreSession.{CoreSession}
use Rattle.cube_core.specs.declared.cell.CoreCell.{CoreCell}
use Rattle.cube_journal.specs.declared.reply.Reply.{Reply}
use Rattle.cube_language.specs.declared.statement.Statement.{Statement}
use Rattle.cube_run.specs.RunRecords.{LoadedFile, Sentence}
use Rattle.cube_run.specs.SessionStates.{KeptWatch}
use Rattle.job_groups.specs.AskedEach.{AreShardMails}
use Rattle.known_cubes.specs.KnownCubes.{OpenWithStorableCubes}
use Rattle.linked_shards.specs.CellShards.{CoreShardStands}
use Rattle.linked_shards.specs.declared.cell.CoreShard.{CoreShard}
use Rattle.scripted_pasts.specs.Performed.{Performs, PerformsWatched}
use Rattle.cube_core.specs.HoldStates.{IsUnderOwnNumber}
use Rattle.shard_events.specs.ShardsInRuns.{FitsShard, ShardAnswerSays}

-- The caller is the session's, each shard has its mail, and so has the flusher; and the cubes with which the core opens
-- can be stored, and have their dictionaries.
pub record IsServed (cells : List (CoreCell CoreShard)) (caller session shards : ℕ) : Type 0 where
  pub some : 1 ≤ shards
  pub client : IsClientOf FitsShard CoreShardStands ShardAnswerSays cells caller session
  pub is_session : IsSessionOf FitsShard CoreShardStands ShardAnswerSays cells session
  pub mails : AreShardMails FitsShard CoreShardStands ShardAnswerSays cells session shards (2 + shards)
  pub flush_mail : IsMailAt FitsShard CoreShardStands ShardAnswerSays cells shards (2 + shards + shards)
  pub flush_serves : ServesClient FitsShard CoreShardStands ShardAnswerSays cells session shards
  pub storable : OpenWithStorableCubes FitsShard CoreShardStands ShardAnswerSays cells
  pub named : OpenWithNames FitsShard CoreShardStands ShardAnswerSays cells

module _ (cells : List (CoreCell CoreShard)) (caller : ℕ) where
  -- From these calls of the session to those it opens and closes no reader but under its own number, so that its watch
  -- stays as it is.
  abbrev pub LeavesItsWatch : ℕ → List CoreEntry → List CoreEntry → Type 0
  LeavesItsWatch session own now =
      GoOnByCalls FitsShard CoreShardStands ShardAnswerSays cells caller session (IsUnderOwnNumber session) own now

  abbrev pub PerformsOverShards : (LoadedFile → Type 0) → Sentence → CoreSession → Option KeptWatch → List CoreEntry
      → CoreSession → Option KeptWatch → List CoreEntry → Reply → Type 0
  PerformsOverShards IsFile sentence old watch own new kept now said =
      Performs FitsShard CoreShardStands ShardAnswerSays cells caller IsFile sentence old watch own new kept now said

  abbrev pub PerformsWatchedOverShards : (LoadedFile → Type 0) → Statement → CoreSession → List CoreEntry → CoreSession
      → List CoreEntry → Reply → Type 0
  PerformsWatchedOverShards IsFile s old own new now said =
      PerformsWatched FitsShard CoreShardStands ShardAnswerSays cells caller IsFile s old own new now said
