-- A counted INSERT that has begun, or that has changed nothing yet, ends.
use Rattle.std.proofs.Common.{◌≡◌, ℕ, ◌<◌, ◌≤◌, true, List, [], ◌∷◌, ◌++◌, length, refl, subst, arith}
use mathlib.Core.List.{IsPrefix}
use Rattle.core_agreements.specs.PostsForOperations.{batches_posted}
use Rattle.core_changes.proofs.EndedChanges.{IsPlainRefusal, misfit-is-plain, epoch-stays, nothing-stays, operations-stay, failed as change-failed, finished as change-finished, refused as change-refused, stopped as change-stopped}
use Rattle.core_changes.specs.ChangesUnderWay.{HasBegunWith, HasChangedNothing, IsSameStatement}
use Rattle.core_changes.specs.FinishedChanges.{HasFinished}
use Rattle.core_inserts.specs.InsertEnds.{IsInsertText, AnswersAsInsert, AnswersInsert, CanBeStored, HasBatch, IsPutFailure, IsRefusalOn, PutsByEnd, failure_refusal, posted_batches, without_memory, unfit, full}
use Rattle.core_names.specs.NamesInTheEnd.{OpenWithNames}
use Rattle.core_program.specs.CoreFits.{CoreEntry}
use Rattle.core_states.specs.LeftBehind.{GoOnByCalls, IsPlainCall}
use Rattle.core_states.specs.StandingInCore.{HoldsForMode}
use Rattle.core_states.specs.declared.session.CoreSession.{CoreSession}
use Rattle.cube_core.specs.declared.cell.CoreCell.{CoreCell}
use Rattle.cube_journal.specs.Refusals.{code}
use Rattle.cube_journal.specs.declared.journal_entry.AbortCause.{AbortCause}
use Rattle.cube_journal.specs.declared.journal_entry.AbortCause.TheVariants as abort
use Rattle.cube_journal.specs.declared.journal_entry.JournalEntry.{JournalEntry}
use Rattle.cube_journal.specs.declared.journal_entry.JournalEntry.TheVariants as entry
use Rattle.cube_journal.specs.declared.refusal.Refusal.{Refusal}
use Rattle.cube_journal.specs.declared.reply.Reply.{Reply}
use Rattle.cube_journal.specs.declared.reply.Reply.TheVariants as reply
use Rattle.cube_language.specs.Cubes.{sizes_of}
use Rattle.cube_language.specs.declared.decl.Decl.{Decl}
use Rattle.cube_language.specs.declared.statement.Statement.{Statement}
use Rattle.cube_values.specs.Batches.{Batch}
use Rattle.cube_values.specs.declared.snapshot.Snapshot.{Snapshot}
use Rattle.inserted_rows.proofs.NamesAtEnd.{left-later, rows-posted}
use Rattle.inserted_rows.specs.RowsInTheEnd.{AreToldRows, IsToldOfCubeAt}
use Rattle.known_cubes.proofs.ToldNames.{told-later}
use Rattle.known_cubes.specs.KnownNames.{IsToldOfName}
use Rattle.linked_shards.specs.CellShards.{CoreShardStands}
use Rattle.linked_shards.specs.declared.cell.CoreShard.{CoreShard}
use Rattle.core_changes.specs.CallsOfChanges.{LeavesForChange}
use Rattle.core_changes.specs.ChangeEnds.{ChangeEnd, IsWriterFor, committed_entries, failed_entries, failed_session, finished_session, is_failure}
use Rattle.posted_pasts.specs.PostsAdded.{AddsAtEpoch, AddsOperations}
use Rattle.session_desk.specs.Executed.{IfReplied, OnStopped}
use Rattle.session_desk.specs.declared.answered.Answered.{Answered}
use Rattle.session_desk.specs.declared.answered.Answered.TheVariants.{Replied, Stopped}
use Rattle.session_replies.specs.Modes.{mode_of}
use Rattle.shard_events.specs.ShardsInRuns.{FitsShard, ShardAnswerSays}
use Rattle.shard_statements.specs.OverShards.{LeavesOverShards}
use Rattle.statement_check.specs.OwnParts.{inserted_rows}

pub is-plain : (cells : List (CoreCell CoreShard)) (caller : ℕ) (now : List CoreEntry) (place : ℕ) (d : Decl)
    (s : Statement) (r : Refusal) → IsRefusalOn cells caller now place d s r → IsPlainRefusal r
is-plain cells caller now place d s r without_memory = record { cubes = refl; store = λ e. omega (arith, e) }
is-plain cells caller now place d s r (unfit misfit is) = misfit-is-plain misfit
is-plain cells caller now place d s r (full text fits lacks) = record { cubes = refl; store = λ e. omega (arith, e) }

-- What fails so fails by a cause for which nobody asked.
pub put-fails : (cause : AbortCause) → IsPutFailure cause → is_failure cause ≡ true
put-fails abort.NoMemory put = refl
put-fails (abort.ShardFull shard rows) put = refl
put-fails abort.Asked put = absurd put
put-fails abort.EndOfScript put = absurd put
put-fails abort.TooManyRejected put = absurd put
put-fails abort.ReadFault put = absurd put

-- What holds in the end holds also with more calls.
pub refusal-later : (cells : List (CoreCell CoreShard)) (caller : ℕ) (own now : List CoreEntry) (place : ℕ) (d : Decl)
    (s : Statement) (r : Refusal) → IsPrefix own now → IsRefusalOn cells caller own place d s r
    → IsRefusalOn cells caller now place d s r
refusal-later cells caller own now place d s r more without_memory = without_memory
refusal-later cells caller own now place d s r more (unfit misfit is) = unfit misfit is
refusal-later cells caller own now place d s r more (full text fits lacks) =
    full text fits (λ names may. lacks names (left-later cells caller own now names more may))

-- Numbers that were told stay told.
numbers-later : (own now : List CoreEntry) (place : ℕ) (d : Decl) (batch : Batch) → IsPrefix own now
    → AreToldRows own place d batch → AreToldRows now place d batch
numbers-later own now place d batch more rows = record {
  dims = rows.dims;
  width = rows.width;
  coords = rows.coords;
  numbers = λ k row l dim number text at.
      let has = rows.numbers k row l dim number text at in
      record {
        name = has.name;
        told = subst (λ (l : List CoreEntry). IsToldOfName l place dim has.name number) more.1
            (told-later own more.0 place dim has.name number has.told);
      };
}

pub has-batch-later : (cells : List (CoreCell CoreShard)) (caller : ℕ) (own now : List CoreEntry) (place : ℕ) (d : Decl)
    (s : Statement) (batch : Batch) → IsPrefix own now → HasBatch cells caller own place d s batch
    → HasBatch cells caller now place d s batch
has-batch-later cells caller own now place d s batch more has = record {
  fits_it = has.fits_it;
  rows = record {
    told = numbers-later own now place d batch more has.rows.told;
    stand = λ names may. has.rows.stand names (left-later cells caller own now names more may);
  };
}

pub batch-later : (cells : List (CoreCell CoreShard)) (caller : ℕ) (own now : List CoreEntry) (place : ℕ) (d : Decl)
    (s : Statement) (batch : Batch) → HasBatch cells caller own place d s batch → IsPrefix own now
    → CanBeStored cells caller now place d s
batch-later cells caller own now place d s batch has more = record {
  fits_it = has.fits_it;
  places = λ names may. (has.rows.stand names (left-later cells caller own now names more may)).places;
}

module _ (cells : List (CoreCell CoreShard)) (caller : ℕ) (old : CoreSession) (s : Statement)
    (first own now : List CoreEntry) (place : ℕ) (d : Decl) where
  abbrev Puts : ChangeEnd → Type 0
  Puts = PutsByEnd cells caller old s first now place d

  abbrev Answers : ChangeEnd → Reply → Type 0
  Answers = AnswersInsert cells caller now place d s

  abbrev Answered-so : CoreSession → Answered → Type 0
  Answered-so new answered = AnswersAsInsert cells caller old s first now place d new answered

  abbrev Plain : Type 0
  Plain = GoOnByCalls FitsShard CoreShardStands ShardAnswerSays cells caller old.number IsPlainCall own now

  abbrev Holds : CoreSession → Type 0
  Holds new =
      HoldsForMode FitsShard CoreShardStands ShardAnswerSays cells caller new.number now (mode_of new.mode)

  -- It stops after plain calls.
  pub stopped : (added : List JournalEntry) (new : CoreSession)
      → LeavesForChange cells caller old.number old.statements s first own added → IsPrefix own now
      → Plain → IsSameStatement old new → Answered-so new Stopped
  stopped added new left more plain stays =
      change-stopped cells caller old s first own now (IsInsertText place d s) Puts Answers added new left more plain
      stays

  module _ (writer : Snapshot) (writes : IsWriterFor (mode_of old.mode) writer)
      (counted : old.commits < old.statements) where
    -- It is done.
    pub finished : (shards : ℕ) (batch : Batch) (new : CoreSession) → 1 ≤ shards
        → OpenWithNames FitsShard CoreShardStands ShardAnswerSays cells → IsToldOfCubeAt own place d
        → HasBatch cells caller own place d s batch
        → HasBegunWith cells caller old s first own (IsInsertText place d s) writer
        (AddsOperations place writer.epoch (batches_posted (posted_batches d shards place writer.epoch batch.rows)))
        → IsPrefix own now → Plain → new ≡ finished_session old → Holds new
        → HasFinished cells caller old writer own now
        → Answered-so new (Replied (reply.Stored (length (inserted_rows s)) writer.epoch))
    finished shards batch new some named told has begun more plain becomes holds f =
        let ended = committed_entries old.number old.statements (mode_of old.mode) writer ++ f.round in
        let batches = posted_batches d shards place writer.epoch batch.rows in
        change-finished cells caller old s first own now (IsInsertText place d s) Puts Answers writer writes counted new
        (reply.Stored (length (inserted_rows s)) writer.epoch) begun.left begun.asks more plain becomes holds f
        (record {
          storable = batch-later cells caller own now place d s batch has more;
          batches = batches;
          posted =
              operations-stay cells caller old.number first own now ended f.left place writer.epoch
              (batches_posted batches) begun.learns;
          stand = λ names may.
              rows-posted cells caller place own d (inserted_rows s) batch.rows named told has.rows.told.coords
              has.rows.stand shards writer.epoch (sizes_of d.dims) some names
              (left-later cells caller own now names more may);
        })
        refl

    -- It fails.
    pub failed : (cause : AbortCause) (batch : Batch) (new : CoreSession) → IsPutFailure cause
        → HasBatch cells caller own place d s batch
        → HasBegunWith cells caller old s first own (IsInsertText place d s) writer (AddsAtEpoch writer.epoch)
        → IsPrefix own now → Plain → new ≡ failed_session old → Holds new
        → LeavesOverShards cells caller old.number own now
        (failed_entries old.number old.statements writer cause)
        → Answered-so new (Replied (reply.Refused (failure_refusal cause)))
    failed cause batch new put has begun more plain becomes holds left =
        change-failed cells caller old s first own now (IsInsertText place d s) Puts Answers writer writes counted new
        (reply.Refused (failure_refusal cause)) cause (put-fails cause put) begun.left begun.asks more plain becomes
        holds left
        (epoch-stays cells caller old.number first own now (failed_entries old.number old.statements writer cause) left
        writer.epoch begun.learns)
        (record {
          put = put;
          storable = batch-later cells caller own now place d s batch has more;
          is = refl;
        })

  -- It is refused before it has changed anything, or stops at that.
  pub refused : (why : Refusal) (answered : Answered) → old.commits < old.statements
      → IsRefusalOn cells caller own place d s why
      → HasChangedNothing cells caller old s first own (IsInsertText place d s)
      → IfReplied answered (λ said. said ≡ reply.Refused why)
      → IfReplied answered (λ said. LeavesOverShards cells caller old.number own now
      (entry.Refused old.number old.statements (code why) ∷ []))
      → OnStopped answered (LeavesOverShards cells caller old.number own now []) → Holds old
      → Answered-so old answered
  refused why answered counted right nothing is left stops holds =
      change-refused cells caller old s first own now (IsInsertText place d s) Puts Answers why answered counted
      nothing is left stops holds
      (λ leaves. nothing-stays cells caller old.number first own now
      (entry.Refused old.number old.statements (code why) ∷ []) leaves nothing.learns)
      (λ more. record {
        why = why;
        right = refusal-later cells caller own now place d s why more right;
        number = refl;
        is = refl;
      })
