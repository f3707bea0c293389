-- What a session asks besides its transactions, and what it then knows: a round of the flusher, and a purge of all
-- shards.
-- Source: AOSI (ICDE 2018), flush rounds and purge up to LSE; requests by mail are this project's own.
use Rattle.std.specs.Prelude.{◌≡◌, ℕ, ◌≤◌, true, List, ◌∷◌, ◌++◌, replicate}
use Rattle.cube_journal.specs.declared.note.Note.{Note}
use Rattle.cube_journal.specs.declared.note.Note.TheVariants as note
use Rattle.cube_core.specs.Links.{AreEventsOf}
use Rattle.cube_core.specs.BoardCells.{IsEntryEvent}
use Rattle.core_program.specs.Knowing.{IsLaterRun}
use Rattle.core_events.specs.Events.{Opening, Fetch, NoChange, Post, CoreEvent, By, flush_mail}
use Rattle.core_events.specs.Groups.{has_number}
use Rattle.core_events.specs.Jobs.{Done, Flush, JobOutcome, OutOfMemory, StoreLost}
use Rattle.core_program.specs.CoreFits.{CoreEntry}
use Rattle.cube_core.specs.declared.cell.CoreCell.{CoreCell}
use Rattle.cube_core.specs.declared.jobs.FlushAnswer.{FlushAnswer}
use Rattle.cube_core.specs.declared.jobs.FlushAnswer.TheVariants as flush
use Rattle.cube_core.specs.declared.jobs.JobAnswer.{JobAnswer}
use Rattle.cube_core.specs.declared.jobs.JobAnswer.TheVariants as reply
use Rattle.cube_core.specs.declared.shard.ShardAnswer.TheVariants as answer
use Rattle.session_snapshots.specs.KnownHolds.{KnowsState}
use Rattle.linked_shards.specs.CellShards.{CoreShardStands}
use Rattle.linked_shards.specs.declared.cell.CoreShard.{CoreShard}
use Rattle.session_snapshots.specs.SessionCalls.{MayLeaveNote}
use Rattle.shard_events.specs.ShardsInRuns.{FitsShard, ShardAnswerSays}

-- How a round ended, by the flusher's answer.
abbrev pub round_outcome : FlushAnswer → JobOutcome
round_outcome flush.Done = Done
round_outcome flush.StoreFailed = StoreLost
round_outcome flush.NoMemory = OutOfMemory

-- A round is done, is lost to the disk, or is out of memory.
abbrev pub IsRoundOutcome : JobOutcome → Type 0
IsRoundOutcome Done = Unit {0}
IsRoundOutcome StoreLost = Unit {0}
IsRoundOutcome OutOfMemory = Unit {0}
IsRoundOutcome outcome = ⊥

-- An answer of a mail that tells how a round ended, and what it tells.
abbrev pub TellsRound : JobAnswer → Type 0
TellsRound (reply.Flush said) = Unit {0}
TellsRound (reply.Shard answer.Done) = Unit {0}
TellsRound (reply.Shard answer.NoMemory) = Unit {0}
TellsRound said = ⊥

abbrev pub round_told : JobAnswer → FlushAnswer
round_told (reply.Flush said) = said
round_told (reply.Shard answer.NoMemory) = flush.NoMemory
round_told said = flush.Done

-- In a run the session's calls go on by a FLUSH, some calls that change nothing, and the fetch of its outcome.
pub record GoOnByRound (o : Opening) (session : ℕ) (own : List CoreEntry) (es : List CoreEvent) (outcome : JobOutcome)
    : Type 0 where
  pub before : List CoreEvent
  pub events : AreEventsOf (IsEntryEvent FitsShard CoreShardStands ShardAnswerSays o) own before
  pub waits : ℕ
  pub whole : es ≡ By session (Fetch (flush_mail o) outcome) ∷ replicate waits (By session NoChange)
      ++ By session (Post (flush_mail o) Flush) ∷ before

module _ (cells : List (CoreCell CoreShard)) (caller session : ℕ) where
  -- So it is in each run in which its own calls begin with these.
  abbrev pub LearnsOfRound : FlushAnswer → List CoreEntry → List CoreEntry → Type 0
  LearnsOfRound said own now =
      (o : Opening) (log : List CoreEntry) (run es : List CoreEvent)
      → IsLaterRun FitsShard CoreShardStands ShardAnswerSays cells o caller now log run
      → AreEventsOf (IsEntryEvent FitsShard CoreShardStands ShardAnswerSays o) now es
      → GoOnByRound o session own es (round_outcome said)

  -- The session knows that it may leave the note, over shards.
  abbrev pub MayNoteOfShards : List CoreEntry → Note → Type 0
  MayNoteOfShards own note = MayLeaveNote FitsShard CoreShardStands ShardAnswerSays cells caller session own note

  -- It may note that a round was done, or refuse as 17 one that was lost to the disk.
  abbrev pub MayNoteRound : List CoreEntry → FlushAnswer → Type 0
  MayNoteRound own flush.Done = (statement : ℕ) → MayNoteOfShards own (note.Flushed session statement)
  MayNoteRound own flush.StoreFailed = (statement : ℕ) → MayNoteOfShards own (note.Refused session statement 17)
  MayNoteRound own flush.NoMemory = Unit {0}

  -- It was told that LSE is the epoch or more.
  abbrev pub KnowsSafe : List CoreEntry → ℕ → Type 0
  KnowsSafe own epoch =
      KnowsState FitsShard CoreShardStands ShardAnswerSays cells caller session own (λ o k. epoch ≤ k.lse)

  -- The desk has shown it just this epoch as LSE since its last entry.
  abbrev pub WasShownSafe : List CoreEntry → ℕ → Type 0
  WasShownSafe own epoch = KnowsState FitsShard CoreShardStands ShardAnswerSays cells caller session own
      (λ o k. has_number k.shown epoch ≡ true)

  -- It may note a purge at the epoch.
  abbrev pub MayNotePurged : List CoreEntry → ℕ → Type 0
  MayNotePurged own epoch = (statement : ℕ) → MayNoteOfShards own (note.Purged session statement epoch)

  -- It knows the epoch as LSE by both.
  pub record IsToldSafe (own : List CoreEntry) (epoch : ℕ) : Type 0 where
    pub safe : KnowsSafe own epoch
    pub shown : WasShownSafe own epoch
