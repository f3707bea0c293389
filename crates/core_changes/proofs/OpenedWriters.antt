-- What a session has left once the writer of a change is open.
use Rattle.std.proofs.Common.{◌≡◌, ℕ, List, [], ◌∷◌, ◌++◌, refl, sym, subst}
use Rattle.std.specs.Prelude.{IfOk, Result, Ok, Err}
use mathlib.Core.List.{IsPrefix}
use Rattle.core_program.specs.ClientCalls.{desk_entry}
use Rattle.core_cells.specs.declared.desk.DeskAnswer.TheVariants as answer
use Rattle.core_cells.specs.declared.desk.DeskCall.TheVariants as call
use Rattle.core_program.specs.CoreFits.{CoreEntry}
use Rattle.core_program.specs.Knowing.{IsClientOf}
use Rattle.core_states.proofs.LeftCalls.{left-by-call, left-nothing}
use Rattle.core_states.specs.LeftBehind.{GoOnByCalls, IsPlainCall}
use Rattle.core_states.specs.StandingInCore.{HoldsForMode}
use Rattle.cube_core.specs.declared.cell.CoreCell.{CoreCell}
use Rattle.cube_journal.specs.declared.journal_entry.JournalEntry.{JournalEntry}
use Rattle.cube_run.specs.SessionStates.{Idle}
use Rattle.cube_values.specs.declared.snapshot.Snapshot.{Snapshot}
use Rattle.session_snapshots.specs.KnownHolds.{HoldsWriter}
use Rattle.linked_shards.specs.CellShards.{CoreShardStands}
use Rattle.linked_shards.specs.declared.cell.CoreShard.{CoreShard}
use Rattle.core_changes.specs.ChangeEnds.{IsWriterFor, begun_entries}
use Rattle.session_replies.specs.Modes.{mode_of}
use Rattle.session_replies.specs.declared.mode.SessionMode.{SessionMode}
use Rattle.session_replies.specs.declared.mode.SessionMode.TheVariants as variant
use Rattle.shard_events.specs.ShardsInRuns.{FitsShard, ShardAnswerSays}
use Rattle.shard_statements.specs.OverShards.{LeavesOverShards}

module _ (cells : List (CoreCell CoreShard)) (caller session : ℕ) (own now : List CoreEntry) where
  module _ (acts : IsClientOf FitsShard CoreShardStands ShardAnswerSays cells caller session) (statement : ℕ) where
    pub writer-left : (writer : Snapshot)
        → now ≡ own ++ desk_entry caller (call.OpenWrite session statement) (answer.Opened writer) ∷ []
        → LeavesOverShards cells caller session own now (begun_entries session statement Idle writer)
    writer-left writer is =
        left-by-call FitsShard CoreShardStands ShardAnswerSays cells caller session acts own now 0
        (call.OpenWrite session statement) (answer.Opened writer) is (λ o log run es later are. tt) (λ k. tt)

    pub none-left : now ≡ own ++ desk_entry caller (call.OpenWrite session statement) answer.NoMemory ∷ []
        → LeavesOverShards cells caller session own now []
    none-left is =
        left-by-call FitsShard CoreShardStands ShardAnswerSays cells caller session acts own now 0
        (call.OpenWrite session statement) answer.NoMemory is (λ o log run es later are. tt) (λ k. tt)

  abbrev Plain : Type 0
  Plain = GoOnByCalls FitsShard CoreShardStands ShardAnswerSays cells caller session IsPlainCall own now

  -- Whatever it leaves, the calls are more, and plain.
  pub both-of : (added : List JournalEntry) → LeavesOverShards cells caller session own now added
      → IsPrefix own now × Plain
  both-of added left = (left.more, left.plain)

module _ (cells : List (CoreCell CoreShard)) (caller session : ℕ) (own : List CoreEntry) (mode : SessionMode)
    (held : Snapshot) (is : mode ≡ variant.Open held) where
  -- The writer of the transaction that is open.
  pub held-is-for : IsWriterFor (mode_of mode) held
  held-is-for = subst (λ (m : SessionMode). IsWriterFor (mode_of m) held) (sym is) refl

  pub holds-held : HoldsForMode FitsShard CoreShardStands ShardAnswerSays cells caller session own (mode_of mode)
      → HoldsWriter FitsShard CoreShardStands ShardAnswerSays cells caller session own held
  holds-held holds =
      subst (λ (m : SessionMode). HoldsForMode FitsShard CoreShardStands ShardAnswerSays cells caller session own
      (mode_of m)) is holds

  pub none-begun : (statement : ℕ)
      → LeavesOverShards cells caller session own own (begun_entries session statement (mode_of mode) held)
  none-begun statement =
      subst (λ (m : SessionMode). LeavesOverShards cells caller session own own
      (begun_entries session statement (mode_of m) held)) (sym is)
      (left-nothing FitsShard CoreShardStands ShardAnswerSays cells caller session own)

-- A session without a transaction changes rows by whichever writer is opened.
pub writer-any : {E : Type 0} (mode : SessionMode) → mode ≡ variant.Idle → (result : Result Snapshot E)
    → IfOk result (λ writer. IsWriterFor (mode_of mode) writer)
writer-any mode was (Ok writer) = subst (λ (m : SessionMode). IsWriterFor (mode_of m) writer) (sym was) tt
writer-any mode was (Err fault) = tt
