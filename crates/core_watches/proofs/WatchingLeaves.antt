-- What the calls of a watch leave, one after the other.
use Rattle.std.proofs.Common.{◌≡◌, ℕ, List, [], ◌∷◌, ◌++◌, sym, subst, append_assoc}
use Rattle.core_watches.proofs.WatchingKinds.{plain-watches}
use Rattle.core_watches.specs.WatchingCalls.{IsWatchingCall, LeavesByWatching}
use Rattle.core_program.specs.ClientCalls.{desk_entry}
use Rattle.core_cells.specs.declared.desk.DeskAnswer.TheVariants as answer
use Rattle.core_cells.specs.declared.desk.DeskCall.TheVariants as call
use Rattle.core_cubes.proofs.CallsGoOn.{adds-by-call, go-on-as, go-on-by-call, go-on-then}
use Rattle.core_states.specs.OwnCalls.{OwnCallsLeave}
use Rattle.core_program.specs.CoreFits.{CoreEntry}
use Rattle.core_program.specs.Knowing.{IsClientOf}
use Rattle.core_states.proofs.LeftCalls.{longer-front}
use Rattle.core_states.specs.LeftBehind.{IsPlainCall}
use Rattle.cube_core.specs.declared.cell.CoreCell.{CoreCell}
use Rattle.cube_journal.specs.declared.journal_entry.JournalEntry.{JournalEntry}
use Rattle.cube_journal.specs.declared.journal_entry.JournalEntry.TheVariants as entry
use Rattle.linked_shards.specs.CellShards.{CoreShardStands}
use Rattle.linked_shards.specs.declared.cell.CoreShard.{CoreShard}
use Rattle.session_watches.specs.KnownReaders.{opened_reader}
use Rattle.shard_events.specs.ShardsInRuns.{FitsShard, ShardAnswerSays}
use Rattle.shard_statements.specs.OverShards.{LeavesOverShards}

module _ (cells : List (CoreCell CoreShard)) (caller session : ℕ) where
  abbrev Left : List CoreEntry → List CoreEntry → List JournalEntry → Type 0
  Left own now added = LeavesByWatching cells caller session own now added

  pub left-plainly : (own now : List CoreEntry) (added : List JournalEntry)
      → LeavesOverShards cells caller session own now added → Left own now added
  left-plainly own now added left = record {
    more = left.more;
    entries = left.entries;
    calls = go-on-as FitsShard CoreShardStands ShardAnswerSays cells caller session IsPlainCall IsWatchingCall own now
        plain-watches left.plain;
  }

  pub left-both : (own mid now : List CoreEntry) (a b : List JournalEntry) → Left own mid a → Left mid now b
      → Left own now (a ++ b)
  left-both own mid now a b one two = record {
    more = longer-front own mid now one.more two.more;
    entries = λ entries leave.
        subst (λ (es : List JournalEntry). OwnCallsLeave FitsShard CoreShardStands ShardAnswerSays cells caller session now es)
        (append_assoc entries a b) (two.entries (entries ++ a) (one.entries entries leave));
    calls = go-on-then FitsShard CoreShardStands ShardAnswerSays cells caller session IsWatchingCall own mid now two.more
        one.calls two.calls;
  }

  module _ (acts : IsClientOf FitsShard CoreShardStands ShardAnswerSays cells caller session) (holder statement : ℕ)
      (own now : List CoreEntry) where
    pub left-opening : (epoch : ℕ)
        → now ≡ own ++ desk_entry caller (call.OpenRead holder statement) (opened_reader epoch) ∷ []
        → Left own now (entry.Read holder statement epoch ∷ [])
    left-opening epoch is =
        let c = call.OpenRead holder statement in
        let said = opened_reader epoch in
        record {
          more = (desk_entry caller c said ∷ [], sym is);
          entries = adds-by-call FitsShard CoreShardStands ShardAnswerSays cells caller session acts own now c said is 0
              (λ o log run es later are. tt);
          calls = go-on-by-call FitsShard CoreShardStands ShardAnswerSays cells caller session acts own now c said is
              IsWatchingCall (λ k. tt);
        }

    pub left-unopened : now ≡ own ++ desk_entry caller (call.OpenRead holder statement) answer.NoMemory ∷ []
        → Left own now []
    left-unopened is =
        let c = call.OpenRead holder statement in
        record {
          more = (desk_entry caller c answer.NoMemory ∷ [], sym is);
          entries = adds-by-call FitsShard CoreShardStands ShardAnswerSays cells caller session acts own now c
              answer.NoMemory is 0 (λ o log run es later are. tt);
          calls = go-on-by-call FitsShard CoreShardStands ShardAnswerSays cells caller session acts own now c
              answer.NoMemory is IsWatchingCall (λ k. tt);
        }

    pub left-closing : now ≡ own ++ desk_entry caller (call.CloseRead holder statement) answer.Done ∷ []
        → Left own now (entry.ReadEnd holder statement ∷ [])
    left-closing is =
        let c = call.CloseRead holder statement in
        record {
          more = (desk_entry caller c answer.Done ∷ [], sym is);
          entries = adds-by-call FitsShard CoreShardStands ShardAnswerSays cells caller session acts own now c answer.Done is
              0 (λ o log run es later are. tt);
          calls = go-on-by-call FitsShard CoreShardStands ShardAnswerSays cells caller session acts own now c answer.Done is
              IsWatchingCall (λ k. tt);
        }
