-- A refusal of a statement of a watch.
use Rattle.std.proofs.Common.{◌≡◌, ℕ, List, [], ◌++◌}
use mathlib.Core.List.{IsPrefix}
use Rattle.core_watches.proofs.WatchingLeaves.{left-both, left-plainly}
use Rattle.core_watches.specs.WatchingCalls.{LeavesByWatching}
use Rattle.core_program.specs.CoreFits.{CoreEntry}
use Rattle.core_states.proofs.Refused.{either-plain}
use Rattle.core_watches.specs.KeptWatches.{IsRefusedSo}
use Rattle.cube_core.specs.declared.cell.CoreCell.{CoreCell}
use Rattle.cube_journal.specs.declared.journal_entry.JournalEntry.{JournalEntry}
use Rattle.cube_journal.specs.declared.refusal.Refusal.{Refusal}
use Rattle.cube_journal.specs.declared.reply.Reply.TheVariants as reply
use Rattle.kept_holders.proofs.LeftHolders.{holders-left, plain-are-own}
use Rattle.linked_shards.specs.CellShards.{CoreShardStands}
use Rattle.linked_shards.specs.declared.cell.CoreShard.{CoreShard}
use Rattle.session_desk.specs.Executed.{IfReplied, OnStopped}
use Rattle.session_desk.specs.declared.answered.Answered.{Answered}
use Rattle.session_desk.specs.declared.answered.Answered.TheVariants.{Replied, Stopped}
use Rattle.session_watches.specs.KnownReaders.{HoldersKeep}
use Rattle.shard_events.specs.ShardsInRuns.{FitsShard, ShardAnswerSays}
use Rattle.shard_statements.specs.OverShards.{LeavesOverShards}

module _ (cells : List (CoreCell CoreShard)) (caller session : ℕ) (own now : List CoreEntry) (added : List JournalEntry) where
  pub prefix-either : (result : Answered) → IfReplied result (λ said. LeavesOverShards cells caller session own now added)
      → OnStopped result (LeavesOverShards cells caller session own now []) → IsPrefix own now
  prefix-either (Replied said) left stopped = left.more
  prefix-either Stopped left stopped = stopped.more

  pub holders-either : (new_cells : List (CoreCell CoreShard)) (new_caller : ℕ) → new_cells ≡ cells → new_caller ≡ caller
      → (result : Answered) → IfReplied result (λ said. LeavesOverShards cells caller session own now added)
      → OnStopped result (LeavesOverShards cells caller session own now [])
      → HoldersKeep FitsShard CoreShardStands ShardAnswerSays session cells caller own new_cells new_caller now
  holders-either new_cells new_caller p q result left stopped =
      coe 1 0 (i. HoldersKeep FitsShard CoreShardStands ShardAnswerSays session cells caller own (p i) (q i) now)
      (holders-left FitsShard CoreShardStands ShardAnswerSays cells caller session own now
      (prefix-either result left stopped)
      (plain-are-own FitsShard CoreShardStands ShardAnswerSays cells caller session own now
      (either-plain FitsShard CoreShardStands ShardAnswerSays cells caller session own now added result left stopped)))

  pub refused-so : (r : Refusal) (result : Answered) → IfReplied result (λ said. said ≡ reply.Refused r)
      → IfReplied result (λ said. LeavesOverShards cells caller session own now added)
      → IfReplied result (IsRefusedSo cells caller session own now added r)
  refused-so r (Replied said) is left =
      record { said_is = is; left = left-plainly cells caller session own now added left }
  refused-so r Stopped is left = tt

-- After calls that leave entries.
pub then-refused-so : (cells : List (CoreCell CoreShard)) (caller session : ℕ) (own mid now : List CoreEntry)
    (before added : List JournalEntry) (r : Refusal) (result : Answered)
    → LeavesByWatching cells caller session own mid before
    → IfReplied result (IsRefusedSo cells caller session mid now added r)
    → IfReplied result (IsRefusedSo cells caller session own now (before ++ added) r)
then-refused-so cells caller session own mid now before added r (Replied said) first refused = record {
  said_is = refused.said_is;
  left = left-both cells caller session own mid now before added first refused.left;
}
then-refused-so cells caller session own mid now before added r Stopped first refused = tt
