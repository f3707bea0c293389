-- What a session has left, and holds, once a change is finished.
use Rattle.std.proofs.Common.{◌≡◌, ℕ, ◌+◌, Bool, true, false, List, [], ◌∷◌, ◌++◌, refl, sym, ap, subst, unwrap_or}
use Rattle.std.specs.Bool.{OnFalse, OnTrue}
use mathlib.Core.List.{IsPrefix}
use Rattle.core_program.specs.ClientCalls.{desk_entry}
use Rattle.core_cells.specs.declared.desk.DeskAnswer.TheVariants as answer
use Rattle.core_cells.specs.declared.desk.DeskCall.TheVariants as call
use Rattle.core_changes.proofs.OpenedWriters.{both-of}
use Rattle.core_changes.specs.FinishedChanges.{HasFinished}
use Rattle.core_states.proofs.CallEntries.{commits-at}
use Rattle.core_program.specs.CoreFits.{CoreEntry}
use Rattle.core_program.specs.Knowing.{IsClientOf}
use Rattle.core_states.proofs.LeftCalls.{left-by-call, left-nothing}
use Rattle.core_states.specs.LeftBehind.{GoOnByCalls, IsPlainCall}
use Rattle.core_states.specs.StandingInCore.{HoldsForMode}
use Rattle.core_states.specs.declared.session.CoreSession.{CoreSession}
use Rattle.cube_core.specs.declared.cell.CoreCell.{CoreCell}
use Rattle.cube_journal.specs.declared.journal_entry.JournalEntry.{JournalEntry}
use Rattle.cube_journal.specs.declared.journal_entry.JournalEntry.TheVariants as entry
use Rattle.cube_run.specs.Merge.{RoundFollows}
use Rattle.cube_values.specs.declared.snapshot.Snapshot.{Snapshot}
use Rattle.session_snapshots.specs.KnownHolds.{HoldsNothing, HoldsWriter}
use Rattle.linked_shards.specs.CellShards.{CoreShardStands}
use Rattle.linked_shards.specs.declared.cell.CoreShard.{CoreShard}
use Rattle.core_changes.specs.ChangeEnds.{IsWriterFor, commits_after, committed_entries, finished_session, round_due_after}
use Rattle.session_replies.specs.Modes.{mode_of, round_follows}
use Rattle.session_replies.specs.declared.mode.SessionMode.{SessionMode}
use Rattle.session_replies.specs.declared.mode.SessionMode.TheVariants as variant
use Rattle.shard_events.specs.ShardsInRuns.{FitsShard, ShardAnswerSays}
use Rattle.shard_requests.proofs.Onward.{goes-on}
use Rattle.shard_requests.specs.RoundsAfter.{HasFollowed, HasStoppedAfterCommit, HasStoppedInRound}
use Rattle.shard_statements.specs.OverShards.{LeavesOverShards}

-- ---- the transaction that is open stays so

module _ (cells : List (CoreCell CoreShard)) (caller : ℕ) (session : CoreSession) (own : List CoreEntry)
    (writer : Snapshot) {held : Snapshot} (is : session.mode ≡ variant.Open held) where
  pub stays-finished : session ≡ finished_session session
  stays-finished i = record {
    number = session.number;
    mode = session.mode;
    statements = session.statements;
    commits = sym (ap (λ (m : SessionMode). commits_after (mode_of m) session.commits) is) i;
    round_every = session.round_every;
  }

  pub holds-open : IsWriterFor (mode_of session.mode) writer
      → HoldsWriter FitsShard CoreShardStands ShardAnswerSays cells caller session.number own writer
      → HoldsForMode FitsShard CoreShardStands ShardAnswerSays cells caller session.number own (mode_of session.mode)
  holds-open of_mode holds =
      let same : writer ≡ held = subst (λ (m : SessionMode). IsWriterFor (mode_of m) writer) is of_mode in
      subst (λ (m : SessionMode). HoldsForMode FitsShard CoreShardStands ShardAnswerSays cells caller session.number own
      (mode_of m)) (sym is)
      (subst (λ (s : Snapshot). HoldsWriter FitsShard CoreShardStands ShardAnswerSays cells caller session.number own s)
      same holds)

  pub finished-open : HasFinished cells caller session writer own own
  finished-open =
      let every : ℕ = unwrap_or session.round_every 0 in
      record {
        round = [];
        follows =
            subst (λ (m : SessionMode). RoundFollows session.number session.statements
            (round_due_after every (mode_of m) session.commits) []) (sym is) refl;
        left =
            subst (λ (m : SessionMode). LeavesOverShards cells caller session.number own own
            (committed_entries session.number session.statements (mode_of m) writer ++ [])) (sym is)
            (left-nothing FitsShard CoreShardStands ShardAnswerSays cells caller session.number own);
      }

-- ---- one of the statement's own is committed, and a round follows

module _ (cells : List (CoreCell CoreShard)) (caller : ℕ) (session : CoreSession) (own mid now : List CoreEntry)
    (writer : Snapshot)
    (acts : IsClientOf FitsShard CoreShardStands ShardAnswerSays cells caller session.number)
    (holds : HoldsWriter FitsShard CoreShardStands ShardAnswerSays cells caller session.number own writer)
    (was : session.mode ≡ variant.Idle)
    (is : mid ≡ own ++ desk_entry caller (call.Commit session.number session.statements) answer.Done ∷ []) where
  abbrev commit_entry : JournalEntry
  commit_entry = entry.Committed session.number session.statements writer.epoch

  committed : LeavesOverShards cells caller session.number own mid (commit_entry ∷ [])
  committed =
      left-by-call FitsShard CoreShardStands ShardAnswerSays cells caller session.number acts own mid writer.epoch
      (call.Commit session.number session.statements) answer.Done is
      (commits-at FitsShard CoreShardStands ShardAnswerSays cells caller session.number session.number session.statements
      own writer holds) (λ k. tt)

  with-round : (round : List JournalEntry) → LeavesOverShards cells caller session.number mid now round
      → LeavesOverShards cells caller session.number own now (commit_entry ∷ round)
  with-round round left = goes-on cells caller session.number own mid now (commit_entry ∷ []) round committed left

  finishes : (due : Bool) → due ≡ round_follows (unwrap_or session.round_every 0) session.commits
      → HasFollowed cells caller session.number session.statements due mid now
      → HasFinished cells caller session writer own now
  finishes due due_is h =
      let every : ℕ = unwrap_or session.round_every 0 in
      record {
        round = h.added;
        follows =
            subst (λ (m : SessionMode). RoundFollows session.number session.statements
            (round_due_after every (mode_of m) session.commits) h.added) (sym was)
            (subst (λ (b : Bool). RoundFollows session.number session.statements b h.added) due_is h.follows);
        left =
            subst (λ (m : SessionMode). LeavesOverShards cells caller session.number own now
            (committed_entries session.number session.statements (mode_of m) writer ++ h.added)) (sym was)
            (with-round h.added h.left);
      }

  stops : HasStoppedInRound cells caller session.number session.statements mid now
      → HasStoppedAfterCommit cells caller session.number session.statements writer.epoch own now
  stops h = record { added = h.added; left = with-round h.added h.left; half = h.half }

  pub finishes-if : (due result : Bool) → due ≡ round_follows (unwrap_or session.round_every 0) session.commits
      → OnTrue result (HasFollowed cells caller session.number session.statements due mid now)
      → OnTrue result (HasFinished cells caller session writer own now)
  finishes-if due true due_is h = finishes due due_is h
  finishes-if due false due_is h = tt

  pub stops-if : (result : Bool)
      → OnFalse result (HasStoppedInRound cells caller session.number session.statements mid now)
      → OnFalse result (HasStoppedAfterCommit cells caller session.number session.statements writer.epoch own now)
  stops-if true h = tt
  stops-if false h = stops h

  abbrev Plain : Type 0
  Plain = GoOnByCalls FitsShard CoreShardStands ShardAnswerSays cells caller session.number IsPlainCall own now

  pub both-after : (due result : Bool)
      → OnTrue result (HasFollowed cells caller session.number session.statements due mid now)
      → OnFalse result (HasStoppedInRound cells caller session.number session.statements mid now)
      → IsPrefix own now × Plain
  both-after due true followed stopped =
      both-of cells caller session.number own now (commit_entry ∷ followed.added) (with-round followed.added followed.left)
  both-after due false followed stopped =
      both-of cells caller session.number own now (commit_entry ∷ stopped.added) (with-round stopped.added stopped.left)

  pub commits-more : record session { commits = session.commits + 1 } ≡ finished_session session
  commits-more i = record {
    number = session.number;
    mode = session.mode;
    statements = session.statements;
    commits = sym (ap (λ (m : SessionMode). commits_after (mode_of m) session.commits) was) i;
    round_every = session.round_every;
  }

-- A session without a transaction holds nothing, and its mode stays.
pub nothing-for-mode : (cells : List (CoreCell CoreShard)) (caller number : ℕ) (now : List CoreEntry) (mode : SessionMode)
    → mode ≡ variant.Idle → HoldsNothing FitsShard CoreShardStands ShardAnswerSays cells caller number now
    → HoldsForMode FitsShard CoreShardStands ShardAnswerSays cells caller number now (mode_of mode)
nothing-for-mode cells caller number now mode was holds =
    subst (λ (m : SessionMode). HoldsForMode FitsShard CoreShardStands ShardAnswerSays cells caller number now
    (mode_of m)) (sym was) holds

pub if-false : {P : Type 0} (b : Bool) → P → OnFalse b P
if-false true p = tt
if-false false p = p
