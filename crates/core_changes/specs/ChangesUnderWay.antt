-- A change of rows that a session has under way: what its calls for the statement have left and added since the first of
-- them, and how it has ended and is answered.
-- Source: AOSI (ICDE 2018), begin, commit and abort of a transaction. That the statement may be judged once all of the run
-- is known is as with prophecy variables (Abadi and Lamport, 1991).
use Rattle.std.specs.Prelude.{◌≡◌, ℕ, ◌<◌, ◌≤◌, false, List, []}
use mathlib.Core.List.{IsPrefix}
use Rattle.core_events.specs.Events.{Opening, ClientCall}
use Rattle.core_program.specs.CoreFits.{CoreEntry}
use Rattle.scripted_pasts.specs.AskedTexts.{AsksOnly}
use Rattle.core_states.specs.LeftBehind.{GoOnByCalls}
use Rattle.core_states.specs.StandingInCore.{HoldsForMode}
use Rattle.core_states.specs.declared.session.CoreSession.{CoreSession}
use Rattle.cube_core.specs.declared.cell.CoreCell.{CoreCell}
use Rattle.cube_journal.specs.declared.reply.Reply.{Reply}
use Rattle.cube_language.specs.declared.statement.Statement.{Statement}
use Rattle.cube_run.specs.StatementEntries.{is_aborted}
use Rattle.cube_values.specs.declared.snapshot.Snapshot.{Snapshot}
use Rattle.linked_shards.specs.CellShards.{CoreShardStands}
use Rattle.linked_shards.specs.declared.cell.CoreShard.{CoreShard}
use Rattle.core_changes.specs.CallsOfChanges.{IsCallOfChange, LeavesForChange}
use Rattle.core_changes.specs.ChangeEnds.{ChangeEnd, MayEndSo, begun_entries, change_entries, session_after_change}
use Rattle.posted_pasts.specs.PostsAdded.{AddsNoOperation, LearnsThat}
use Rattle.scripted_pasts.specs.Served.{IsServed}
use Rattle.session_desk.specs.Executed.{IfReplied}
use Rattle.session_desk.specs.declared.answered.Answered.{Answered}
use Rattle.session_replies.specs.Modes.{mode_of}
use Rattle.shard_events.specs.ShardsInRuns.{FitsShard, ShardAnswerSays}

-- A session with the statement counted, and after it.
pub record IsSameStatement (old new : CoreSession) : Type 0 where
  pub number : new.number ≡ old.number
  pub statements : new.statements ≡ old.statements
  pub every : new.round_every ≡ old.round_every
  pub counted : new.commits ≤ new.statements

module _ (cells : List (CoreCell CoreShard)) (caller : ℕ) where
  -- A session that has counted its statement may change rows: its calls are served, it holds what its mode says, and has
  -- no aborted transaction.
  pub record MayChange (shards : ℕ) (session : CoreSession) (own : List CoreEntry) : Type 0 where
    pub served : IsServed cells caller session.number shards
    pub holds : HoldsForMode FitsShard CoreShardStands ShardAnswerSays cells caller session.number own
        (mode_of session.mode)
    pub counted : session.commits < session.statements
    pub active : is_aborted (mode_of session.mode) ≡ false

  module _ (old : CoreSession) (s : Statement) (own now : List CoreEntry) where
    -- From the first calls to the last the session's operations are more by such.
    abbrev pub Learns : (ℕ → Opening → List ClientCall → List ClientCall → Type 0) → Type 0
    Learns Adds = LearnsThat FitsShard CoreShardStands ShardAnswerSays Adds cells caller old.number own now

    -- The change has begun by a writer, its calls so far have added such operations, and have asked only for such
    -- texts.
    pub record HasBegunWith (IsText : ℕ → ℕ → List ℕ → Type 0) (writer : Snapshot) (Adds : ℕ → Opening
        → List ClientCall → List ClientCall → Type 0)
        : Type 0 where
      pub left : LeavesForChange cells caller old.number old.statements s own now
          (begun_entries old.number old.statements (mode_of old.mode) writer)
      pub learns : Learns Adds
      pub asks : Learns (AsksOnly IsText)

    -- No entry is left yet, and no operation added. Its calls have asked only for such texts.
    pub record HasChangedNothing (IsText : ℕ → ℕ → List ℕ → Type 0) : Type 0 where
      pub left : LeavesForChange cells caller old.number old.statements s own now []
      pub learns : Learns AddsNoOperation
      pub asks : Learns (AsksOnly IsText)

    -- By its end it has asked only for such texts, has posted such, and is answered such.
    module _ (IsText : ℕ → ℕ → List ℕ → Type 0) (Posts : ChangeEnd → Type 0) (Answers : ChangeEnd → Reply → Type 0)
      where
        -- The counted statement has ended, and is answered by its end. The session holds what its mode says.
        pub record HasEnded (new : CoreSession) (said : Reply) : Type 0 where
          pub ended : ChangeEnd
          pub may : MayEndSo old ended
          pub left : LeavesForChange cells caller old.number old.statements s own now
              (change_entries old.number old.statements (mode_of old.mode) ended)
          pub becomes : new ≡ session_after_change old ended
          pub asks : Learns (AsksOnly IsText)
          pub posts : Posts ended
          pub answers : Answers ended said
          pub holds : HoldsForMode FitsShard CoreShardStands ShardAnswerSays cells caller new.number now
              (mode_of new.mode)

        -- So it is where it is answered. In any case its calls are such of the statement.
        pub record HasAnswered (new : CoreSession) (answered : Answered) : Type 0 where
          pub more : IsPrefix own now
          pub calls : GoOnByCalls FitsShard CoreShardStands ShardAnswerSays cells caller old.number
              (IsCallOfChange old.statements s) own now
          pub stays : IsSameStatement old new
          pub replied : IfReplied answered (HasEnded new)
