-- What a COMMIT leaves after its own entry: a round where one is due.
-- Source: AOSI (ICDE 2018), flush rounds; when a round follows a commit is this project's own.
use Rattle.std.specs.Prelude.{◌≡◌, ◌⊎◌, ℕ, Bool, List, [], ◌∷◌}
use Rattle.core_program.specs.CoreFits.{CoreEntry}
use Rattle.cube_core.specs.declared.cell.CoreCell.{CoreCell}
use Rattle.cube_journal.specs.declared.journal_entry.JournalEntry.{JournalEntry}
use Rattle.cube_journal.specs.declared.journal_entry.JournalEntry.TheVariants as entry
use Rattle.cube_run.specs.Merge.{RoundFollows}
use Rattle.linked_shards.specs.declared.cell.CoreShard.{CoreShard}
use Rattle.shard_statements.specs.OverShards.{LeavesOverShards}

module _ (cells : List (CoreCell CoreShard)) (caller session : ℕ) where
  -- They have left what follows a commit: a round, or its refusal, where one is due, and else nothing.
  pub record HasFollowed (statement : ℕ) (is_due : Bool) (own now : List CoreEntry) : Type 0 where
    pub added : List JournalEntry
    pub left : LeavesOverShards cells caller session own now added
    pub follows : RoundFollows session statement is_due added

  -- They have left nothing, or that a round was made, and no purge.
  abbrev pub IsHalfRound : ℕ → List JournalEntry → Type 0
  IsHalfRound statement added = (added ≡ []) ⊎ (added ≡ entry.Flushed session statement ∷ [])

  pub record HasStoppedInRound (statement : ℕ) (own now : List CoreEntry) : Type 0 where
    pub added : List JournalEntry
    pub left : LeavesOverShards cells caller session own now added
    pub half : IsHalfRound statement added

  -- The transaction is committed, and the round after it stopped.
  pub record HasStoppedAfterCommit (statement epoch : ℕ) (own now : List CoreEntry) : Type 0 where
    pub added : List JournalEntry
    pub left : LeavesOverShards cells caller session own now (entry.Committed session statement epoch ∷ added)
    pub half : IsHalfRound statement added
