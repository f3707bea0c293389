-- What a session has left once a change of rows is finished.
-- Source: AOSI (ICDE 2018), commits and flush rounds; when a round follows a commit is this project's own.
use Rattle.std.specs.Prelude.{ℕ, List, ◌++◌, unwrap_or}
use Rattle.core_program.specs.CoreFits.{CoreEntry}
use Rattle.core_states.specs.declared.session.CoreSession.{CoreSession}
use Rattle.cube_core.specs.declared.cell.CoreCell.{CoreCell}
use Rattle.cube_journal.specs.declared.journal_entry.JournalEntry.{JournalEntry}
use Rattle.cube_run.specs.Merge.{RoundFollows}
use Rattle.cube_values.specs.declared.snapshot.Snapshot.{Snapshot}
use Rattle.linked_shards.specs.declared.cell.CoreShard.{CoreShard}
use Rattle.core_changes.specs.ChangeEnds.{committed_entries, round_due_after}
use Rattle.session_replies.specs.Modes.{mode_of}
use Rattle.shard_statements.specs.OverShards.{LeavesOverShards}

-- The entry of its commit, where the transaction is the statement's own, and those of the round that follows, where one is
-- due.
pub record HasFinished (cells : List (CoreCell CoreShard)) (caller : ℕ) (session : CoreSession) (writer : Snapshot)
    (own now : List CoreEntry) : Type 0 where
  pub round : List JournalEntry
  pub follows : RoundFollows session.number session.statements
      (round_due_after (unwrap_or session.round_every 0) (mode_of session.mode) session.commits) round
  pub left : LeavesOverShards cells caller session.number own now
      (committed_entries session.number session.statements (mode_of session.mode) writer ++ round)
