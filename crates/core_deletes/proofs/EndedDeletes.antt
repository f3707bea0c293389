-- A counted DELETE that has begun, or that has changed nothing yet, ends.
use Rattle.std.proofs.Common.{◌≡◌, ℕ, ◌<◌, inl, inr, List, [], ◌∷◌, ◌++◌, refl, sym, subst, arith}
use mathlib.Core.List.{IsPrefix}
use Rattle.core_changes.proofs.EndedChanges.{IsPlainRefusal, misfit-is-plain, epoch-stays, nothing-stays, operations-stay, failed as change-failed, finished as change-finished, refused as change-refused, stopped as change-stopped}
use Rattle.core_changes.specs.ChangesUnderWay.{HasBegunWith, HasChangedNothing, IsSameStatement}
use Rattle.core_changes.specs.FinishedChanges.{HasFinished}
use Rattle.core_deletes.specs.DeleteEnds.{AnswersAsDelete, AnswersDelete, DropsByEnd, IsRefusalOn}
use Rattle.core_events.specs.Serial.{DropRows}
use Rattle.core_program.specs.CoreFits.{CoreEntry}
use Rattle.core_states.specs.LeftBehind.{GoOnByCalls, IsPlainCall}
use Rattle.core_states.specs.StandingInCore.{HoldsForMode}
use Rattle.core_states.specs.declared.session.CoreSession.{CoreSession}
use Rattle.cube_core.specs.declared.cell.CoreCell.{CoreCell}
use Rattle.cube_journal.specs.Refusals.{code}
use Rattle.cube_journal.specs.declared.journal_entry.AbortCause.TheVariants as abort
use Rattle.cube_journal.specs.declared.journal_entry.JournalEntry.{JournalEntry}
use Rattle.cube_journal.specs.declared.journal_entry.JournalEntry.TheVariants as entry
use Rattle.cube_journal.specs.declared.refusal.Refusal.{Refusal}
use Rattle.cube_journal.specs.declared.refusal.Refusal.TheVariants as refusal
use Rattle.cube_journal.specs.declared.reply.Reply.TheVariants as reply
use Rattle.cube_language.specs.declared.decl.Decl.{Decl}
use Rattle.cube_language.specs.declared.statement.Statement.{Statement}
use Rattle.cube_values.specs.declared.snapshot.Snapshot.{Snapshot}
use Rattle.cube_values.specs.declared.span.Span.{Span}
use Rattle.dropped_regions.proofs.BoxesOfPlans.{box-later}
use Rattle.dropped_regions.specs.DeleteBoxes.{IsBoxOf, IsDeleteText}
use Rattle.linked_shards.specs.CellShards.{CoreShardStands}
use Rattle.linked_shards.specs.declared.cell.CoreShard.{CoreShard}
use Rattle.core_changes.specs.CallsOfChanges.{LeavesForChange}
use Rattle.core_changes.specs.ChangeEnds.{ChangeEnd, IsWriterFor, committed_entries, failed_entries, failed_session, finished_session}
use Rattle.posted_pasts.specs.PostsAdded.{AddsAtEpoch, AddsOperations}
use Rattle.session_desk.specs.Executed.{IfReplied, OnStopped}
use Rattle.session_desk.specs.declared.answered.Answered.{Answered}
use Rattle.session_desk.specs.declared.answered.Answered.TheVariants.{Replied, Stopped}
use Rattle.session_replies.specs.Modes.{mode_of}
use Rattle.shard_events.specs.ShardsInRuns.{FitsShard, ShardAnswerSays}
use Rattle.shard_statements.specs.OverShards.{LeavesOverShards}

pub is-plain : (d : Decl) (s : Statement) (r : Refusal) → IsRefusalOn d s r → IsPlainRefusal r
is-plain d s r (inl is) =
    subst IsPlainRefusal (sym is) (record { cubes = refl; store = λ e. omega (arith, e) })
is-plain d s r (inr why) = subst IsPlainRefusal (sym why.2) (misfit-is-plain why.0)

module _ (cells : List (CoreCell CoreShard)) (caller : ℕ) (old : CoreSession) (s : Statement)
    (first own now : List CoreEntry) (place : ℕ) (d : Decl) where
  abbrev Drops : ChangeEnd → Type 0
  Drops = DropsByEnd cells caller old s first now place d

  abbrev Answered-so : CoreSession → Answered → Type 0
  Answered-so new answered = AnswersAsDelete cells caller old s first now place d new answered

  abbrev Plain : Type 0
  Plain = GoOnByCalls FitsShard CoreShardStands ShardAnswerSays cells caller old.number IsPlainCall own now

  abbrev Holds : CoreSession → Type 0
  Holds new =
      HoldsForMode FitsShard CoreShardStands ShardAnswerSays cells caller new.number now (mode_of new.mode)

  -- It stops after plain calls.
  pub stopped : (added : List JournalEntry) (new : CoreSession)
      → LeavesForChange cells caller old.number old.statements s first own added → IsPrefix own now
      → Plain → IsSameStatement old new → Answered-so new Stopped
  stopped added new left more plain stays =
      change-stopped cells caller old s first own now (IsDeleteText place d s) Drops (AnswersDelete d s) added new
      left more plain stays

  module _ (writer : Snapshot) (writes : IsWriterFor (mode_of old.mode) writer)
      (counted : old.commits < old.statements) where
    -- It is done.
    pub finished : (box : Span) (new : CoreSession)
        → IsBoxOf FitsShard CoreShardStands ShardAnswerSays cells caller own place d s box
        → HasBegunWith cells caller old s first own (IsDeleteText place d s) writer
        (AddsOperations place writer.epoch (DropRows box ∷ []))
        → IsPrefix own now → Plain → new ≡ finished_session old → Holds new
        → HasFinished cells caller old writer own now → Answered-so new (Replied (reply.Dropped writer.epoch))
    finished box new is_box begun more plain becomes holds f =
        let ended = committed_entries old.number old.statements (mode_of old.mode) writer ++ f.round in
        change-finished cells caller old s first own now (IsDeleteText place d s) Drops (AnswersDelete d s) writer
        writes
        counted new (reply.Dropped writer.epoch) begun.left begun.asks more plain becomes holds f
        (record {
          box = box;
          is_box = box-later FitsShard CoreShardStands ShardAnswerSays cells caller own place d now s box more is_box;
          posted =
              operations-stay cells caller old.number first own now ended f.left place writer.epoch (DropRows box ∷ [])
              begun.learns;
        })
        refl

    -- It fails for want of memory.
    pub failed : (new : CoreSession) → HasBegunWith cells caller old s first own (IsDeleteText place d s) writer
        (AddsAtEpoch writer.epoch)
        → IsPrefix own now → Plain → new ≡ failed_session old → Holds new
        → LeavesOverShards cells caller old.number own now
        (failed_entries old.number old.statements writer abort.NoMemory)
        → Answered-so new (Replied (reply.Refused refusal.NoMemory))
    failed new begun more plain becomes holds left =
        change-failed cells caller old s first own now (IsDeleteText place d s) Drops (AnswersDelete d s) writer
        writes counted
        new (reply.Refused refusal.NoMemory) abort.NoMemory refl begun.left begun.asks more plain becomes holds left
        (epoch-stays cells caller old.number first own now
        (failed_entries old.number old.statements writer abort.NoMemory) left writer.epoch begun.learns)
        (refl, refl)

  -- It is refused before it has changed anything, or stops at that.
  pub refused : (why : Refusal) (answered : Answered) → old.commits < old.statements → IsRefusalOn d s why
      → HasChangedNothing cells caller old s first own (IsDeleteText place d s)
      → IfReplied answered (λ said. said ≡ reply.Refused why)
      → IfReplied answered (λ said. LeavesOverShards cells caller old.number own now
      (entry.Refused old.number old.statements (code why) ∷ []))
      → OnStopped answered (LeavesOverShards cells caller old.number own now []) → Holds old
      → Answered-so old answered
  refused why answered counted right nothing is left stops holds =
      change-refused cells caller old s first own now (IsDeleteText place d s) Drops (AnswersDelete d s) why answered
      counted
      nothing is left stops holds
      (λ leaves. nothing-stays cells caller old.number first own now
      (entry.Refused old.number old.statements (code why) ∷ []) leaves nothing.learns)
      (λ more. record { why = why; right = right; number = refl; is = refl })
