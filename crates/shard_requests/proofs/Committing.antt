-- A COMMIT ends the writer of the transaction that is open, and what its calls then leave.
use Rattle.std.proofs.Common.{◌≡◌, ℕ, List, [], ◌∷◌, ◌++◌, sym, subst}
use Rattle.core_program.specs.ClientCalls.{desk_entry}
use Rattle.core_program.specs.Knowing.{IsClientOf}
use Rattle.core_cells.specs.declared.desk.DeskAnswer.TheVariants as answer
use Rattle.core_cells.specs.declared.desk.DeskCall.TheVariants as call
use Rattle.core_states.proofs.CallEntries.{commits-at}
use Rattle.core_program.specs.CoreFits.{CoreEntry}
use Rattle.core_states.proofs.LeftCalls.{left-by-call}
use Rattle.core_states.specs.StandingInCore.{HoldsForMode}
use Rattle.cube_core.specs.declared.cell.CoreCell.{CoreCell}
use Rattle.cube_journal.specs.declared.journal_entry.JournalEntry.{JournalEntry}
use Rattle.cube_journal.specs.declared.journal_entry.JournalEntry.TheVariants as entry
use Rattle.cube_values.specs.declared.snapshot.Snapshot.{Snapshot}
use Rattle.session_snapshots.specs.KnownHolds.{HoldsWriter}
use Rattle.linked_shards.specs.CellShards.{CoreShardStands}
use Rattle.linked_shards.specs.declared.cell.CoreShard.{CoreShard}
use Rattle.session_desk.specs.AtDesk.{IsOpenAt}
use Rattle.session_replies.specs.Modes.{mode_of}
use Rattle.session_replies.specs.declared.mode.SessionMode.{SessionMode}
use Rattle.shard_events.specs.ShardsInRuns.{FitsShard, ShardAnswerSays}
use Rattle.shard_requests.proofs.Onward.{goes-on}
use Rattle.shard_requests.specs.RoundsAfter.{HasStoppedAfterCommit, HasStoppedInRound}
use Rattle.shard_statements.proofs.Executing.{open-writer}
use Rattle.shard_statements.specs.OverShards.{LeavesOverShards}

module _ (cells : List (CoreCell CoreShard)) (caller session : ℕ) (mode : SessionMode) (epoch : ℕ)
    (at : IsOpenAt mode epoch) (own : List CoreEntry)
    (holds : HoldsForMode FitsShard CoreShardStands ShardAnswerSays cells caller session own (mode_of mode)) where
  -- The session holds the writer of its transaction.
  held-writer : HoldsWriter FitsShard CoreShardStands ShardAnswerSays cells caller session own
      (open-writer mode epoch at).writer
  held-writer =
      subst (λ (m : SessionMode). HoldsForMode FitsShard CoreShardStands ShardAnswerSays cells caller session own
      (mode_of m)) (open-writer mode epoch at).mode_is holds

  pub holds-writer : (s : Snapshot) × HoldsWriter FitsShard CoreShardStands ShardAnswerSays cells caller session own s
  holds-writer = ((open-writer mode epoch at).writer, held-writer)

  module _ (acts : IsClientOf FitsShard CoreShardStands ShardAnswerSays cells caller session) (statement : ℕ)
      (mid : List CoreEntry)
      (is : mid ≡ own ++ desk_entry caller (call.Commit session statement) answer.Done ∷ []) where
    pub committed-left : LeavesOverShards cells caller session own mid (entry.Committed session statement epoch ∷ [])
    committed-left =
        let w = open-writer mode epoch at in
        subst (λ (e : ℕ). LeavesOverShards cells caller session own mid (entry.Committed session statement e ∷ []))
        (sym w.epoch_is)
        (left-by-call FitsShard CoreShardStands ShardAnswerSays cells caller session acts own mid w.writer.epoch
        (call.Commit session statement) answer.Done is
        (commits-at FitsShard CoreShardStands ShardAnswerSays cells caller session session statement own w.writer
        held-writer) (λ k. tt))

    pub then-left : (now : List CoreEntry) (round : List JournalEntry)
        → LeavesOverShards cells caller session mid now round
        → LeavesOverShards cells caller session own now (entry.Committed session statement epoch ∷ round)
    then-left now round left =
        goes-on cells caller session own mid now (entry.Committed session statement epoch ∷ []) round committed-left left

    pub stops-committed : (now : List CoreEntry) → HasStoppedInRound cells caller session statement mid now
        → HasStoppedAfterCommit cells caller session statement epoch own now
    stops-committed now h = record { added = h.added; left = then-left now h.added h.left; half = h.half }
