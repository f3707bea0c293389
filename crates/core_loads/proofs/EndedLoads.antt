-- A counted LOAD that has begun, or that has changed nothing yet, ends.
use Rattle.std.proofs.Common.{◌≡◌, ℕ, ◌<◌, true, List, [], ◌∷◌, ◌++◌, Result, refl}
use mathlib.Core.List.{IsPrefix}
use Rattle.core_agreements.specs.PostsForOperations.{batches_posted}
use Rattle.core_changes.proofs.EndedChanges.{epoch-stays, nothing-stays, operations-stay, failed as change-failed, finished as change-finished, refused as change-refused, stopped as change-stopped}
use Rattle.core_changes.specs.ChangeEnds.{ChangeEnd, IsWriterFor, committed_entries, failed_entries, failed_session, finished_session, is_failure}
use Rattle.core_changes.specs.CallsOfChanges.{LeavesForChange}
use Rattle.core_changes.specs.ChangesUnderWay.{HasBegunWith, HasChangedNothing, IsSameStatement}
use Rattle.core_changes.specs.FinishedChanges.{HasFinished}
use Rattle.core_loads.specs.LoadEnds.{AnswersAsLoad, AnswersByEnd, FailsBy, HoldsOfRecords, IsFileText, IsRefusalOf, LoadsByEnd, NoText}
use Rattle.core_loads.proofs.TextsOfLoads.{asks-as, file-text-later, of-none}
use Rattle.core_loads.specs.ShelfLoads.{allowed_loaded}
use Rattle.core_program.specs.CoreFits.{CoreEntry}
use Rattle.core_states.specs.LeftBehind.{GoOnByCalls, IsPlainCall}
use Rattle.core_states.specs.StandingInCore.{HoldsForMode}
use Rattle.core_states.specs.declared.session.CoreSession.{CoreSession}
use Rattle.cube_core.specs.declared.cell.CoreCell.{CoreCell}
use Rattle.cube_journal.specs.Refusals.{code}
use Rattle.cube_journal.specs.declared.journal_entry.AbortCause.{AbortCause}
use Rattle.cube_journal.specs.declared.journal_entry.AbortCause.TheVariants as abort
use Rattle.cube_journal.specs.declared.journal_entry.JournalEntry.{JournalEntry}
use Rattle.cube_journal.specs.declared.journal_entry.JournalEntry.TheVariants as entry
use Rattle.cube_journal.specs.declared.refusal.Refusal.{Refusal}
use Rattle.cube_journal.specs.declared.reply.Reply.{Reply}
use Rattle.cube_journal.specs.declared.reply.Reply.TheVariants as reply
use Rattle.cube_language.specs.declared.bad_row.BadRow.{BadRow}
use Rattle.cube_language.specs.declared.decl.Decl.{Decl}
use Rattle.cube_language.specs.declared.statement.Statement.{Statement}
use Rattle.cube_run.specs.RunRecords.{LoadedFile}
use Rattle.cube_run.specs.SessionStates.{Mode}
use Rattle.cube_values.specs.declared.row.CodedRow.{CodedRow}
use Rattle.cube_values.specs.declared.row.Row.{Row}
use Rattle.cube_values.specs.declared.snapshot.Snapshot.{Snapshot}
use Rattle.scripted_pasts.specs.AskedTexts.{AsksOnly}
use Rattle.inserted_rows.proofs.NamesAtEnd.{left-later}
use Rattle.linked_shards.specs.CellShards.{CoreShardStands}
use Rattle.linked_shards.specs.declared.cell.CoreShard.{CoreShard}
use Rattle.loaded_batches.specs.LoadEnds.{StandForRecords}
use Rattle.posted_pasts.specs.PostsAdded.{AddsAtEpoch, AddsOperations, LearnsThat}
use Rattle.row_encoding.specs.declared.load.BadRecords.{BadRecords}
use Rattle.session_desk.specs.Executed.{IfReplied, OnStopped}
use Rattle.session_desk.specs.declared.answered.Answered.{Answered}
use Rattle.session_desk.specs.declared.answered.Answered.TheVariants.{Replied, Stopped}
use Rattle.session_replies.specs.Modes.{mode_of}
use Rattle.shard_events.specs.ShardsInRuns.{FitsShard, ShardAnswerSays}
use Rattle.shard_statements.specs.OverShards.{LeavesOverShards}

module _ (cells : List (CoreCell CoreShard)) (caller : ℕ) (own now : List CoreEntry) (place : ℕ) (d : Decl)
    (allowed : ℕ) (file : LoadedFile) (mode : Mode) (writer : Snapshot) where
  -- What fails so fails by a cause for which nobody asked.
  pub it-fails : (cause : AbortCause) (r : Refusal) → FailsBy cells caller own place d allowed file mode writer cause r
      → is_failure cause ≡ true
  it-fails abort.NoMemory r fails = refl
  it-fails (abort.ShardFull shard rows) r fails = refl
  it-fails abort.TooManyRejected r fails = refl
  it-fails abort.ReadFault r fails = refl
  it-fails abort.Asked r fails = absurd fails
  it-fails abort.EndOfScript r fails = absurd fails

  -- What holds in the end holds also with more calls.
  pub records-later : (Holds : List (List (List ℕ)) → List (Result Row BadRow) → Type 0) → IsPrefix own now
      → HoldsOfRecords cells caller own place d allowed file Holds
      → HoldsOfRecords cells caller now place d allowed file Holds
  records-later Holds more h = record {
    bytes = h.bytes;
    file_is = h.file_is;
    holds = λ names may. h.holds names (left-later cells caller own now names more may);
  }

  pub fails-later : (cause : AbortCause) (r : Refusal) → IsPrefix own now
      → FailsBy cells caller own place d allowed file mode writer cause r
      → FailsBy cells caller now place d allowed file mode writer cause r
  fails-later abort.NoMemory r more fails = fails
  fails-later (abort.ShardFull shard rows) r more fails = (fails.0, records-later _ more fails.1)
  fails-later abort.TooManyRejected r more fails = (fails.0, fails.1, records-later _ more fails.2)
  fails-later abort.ReadFault r more fails = fails
  fails-later abort.Asked r more fails = absurd fails
  fails-later abort.EndOfScript r more fails = absurd fails

module _ (cells : List (CoreCell CoreShard)) (caller : ℕ) (old : CoreSession) (s : Statement) (file : LoadedFile)
    (first own now : List CoreEntry) (place : ℕ) (d : Decl) where
  abbrev TextAt : List CoreEntry → ℕ → ℕ → List ℕ → Type 0
  TextAt calls = IsFileText cells caller calls place d (allowed_loaded s) file

  later-asks : IsPrefix own now
      → LearnsThat FitsShard CoreShardStands ShardAnswerSays (AsksOnly (TextAt own)) cells caller old.number first own
      → LearnsThat FitsShard CoreShardStands ShardAnswerSays (AsksOnly (TextAt now)) cells caller old.number first own
  later-asks more =
      asks-as (TextAt own) (TextAt now) (file-text-later cells caller place d (allowed_loaded s) file own now more)
      cells
      caller old.number first own

  abbrev Posts : ChangeEnd → Type 0
  Posts = LoadsByEnd cells caller old s file first now place d

  abbrev Answers : ChangeEnd → Reply → Type 0
  Answers = AnswersByEnd cells caller old s file first now place d

  abbrev Answered-so : CoreSession → Answered → Type 0
  Answered-so new answered = AnswersAsLoad cells caller old s file first now place d new answered

  abbrev Plain : Type 0
  Plain = GoOnByCalls FitsShard CoreShardStands ShardAnswerSays cells caller old.number IsPlainCall own now

  abbrev Holds : CoreSession → Type 0
  Holds new =
      HoldsForMode FitsShard CoreShardStands ShardAnswerSays cells caller new.number now (mode_of new.mode)

  -- It stops after plain calls.
  pub stopped : (added : List JournalEntry) (new : CoreSession)
      → LeavesForChange cells caller old.number old.statements s first own added → IsPrefix own now
      → Plain → IsSameStatement old new → Answered-so new Stopped
  stopped added new left more plain stays =
      change-stopped cells caller old s first own now (TextAt now) Posts Answers added new left more plain stays

  module _ (writer : Snapshot) (writes : IsWriterFor (mode_of old.mode) writer)
      (counted : old.commits < old.statements) where
    -- It is done.
    pub finished : (rows : ℕ) (bad : BadRecords) (batches : List (List CodedRow)) (new : CoreSession)
        → HoldsOfRecords cells caller own place d (allowed_loaded s) file (λ lists looked.
        StandForRecords d lists (allowed_loaded s) looked batches rows bad)
        → HasBegunWith cells caller old s first own (TextAt own) writer
        (AddsOperations place writer.epoch (batches_posted batches))
        → IsPrefix own now → Plain → new ≡ finished_session old → Holds new
        → HasFinished cells caller old writer own now
        → Answered-so new (Replied (reply.Loaded rows bad.count bad.first writer.epoch))
    finished rows bad batches new told begun more plain becomes holds f =
        let ended = committed_entries old.number old.statements (mode_of old.mode) writer ++ f.round in
        let later =
        records-later cells caller own now place d (allowed_loaded s) file (mode_of old.mode) writer
        (λ lists looked. StandForRecords d lists (allowed_loaded s) looked batches rows bad) more told
        in
        change-finished cells caller old s first own now (TextAt now) Posts Answers writer writes counted new
        (reply.Loaded rows bad.count bad.first writer.epoch) begun.left (later-asks more begun.asks) more plain
        becomes holds f
        (record {
          batches = batches;
          posted =
              operations-stay cells caller old.number first own now ended f.left place writer.epoch
              (batches_posted batches) begun.learns;
          stand = record {
            bytes = later.bytes;
            file_is = later.file_is;
            holds = λ names may. (later.holds names may).stand;
          };
        })
        (record { rows = rows; bad = bad; batches = batches; told = later; is = refl })

    -- It fails.
    pub failed : (cause : AbortCause) (why : Refusal) (new : CoreSession)
        → FailsBy cells caller own place d (allowed_loaded s) file (mode_of old.mode) writer cause why
        → HasBegunWith cells caller old s first own (TextAt own) writer (AddsAtEpoch writer.epoch)
        → IsPrefix own now → Plain → new ≡ failed_session old → Holds new
        → LeavesOverShards cells caller old.number own now
        (failed_entries old.number old.statements writer cause)
        → Answered-so new (Replied (reply.Refused why))
    failed cause why new fails begun more plain becomes holds left =
        change-failed cells caller old s first own now (TextAt now) Posts Answers writer writes counted new
        (reply.Refused why) cause
        (it-fails cells caller own now place d (allowed_loaded s) file (mode_of old.mode) writer cause why fails)
        begun.left (later-asks more begun.asks) more plain becomes holds left
        (epoch-stays cells caller old.number first own now (failed_entries old.number old.statements writer cause) left
        writer.epoch begun.learns)
        (record {
          why = why;
          fails =
              fails-later cells caller own now place d (allowed_loaded s) file (mode_of old.mode) writer cause why more
              fails;
          is = refl;
        })

  -- It is refused before it has changed anything, or stops at that.
  pub refused : (why : Refusal) (answered : Answered) → old.commits < old.statements
      → IsRefusalOf (mode_of old.mode) file why → HasChangedNothing cells caller old s first own NoText
      → IfReplied answered (λ said. said ≡ reply.Refused why)
      → IfReplied answered (λ said. LeavesOverShards cells caller old.number own now
      (entry.Refused old.number old.statements (code why) ∷ []))
      → OnStopped answered (LeavesOverShards cells caller old.number own now []) → Holds old
      → Answered-so old answered
  refused why answered counted right nothing is left stops holds =
      change-refused cells caller old s first own now (TextAt now) Posts Answers why answered counted
      (record {
        left = nothing.left;
        learns = nothing.learns;
        asks = asks-as NoText (TextAt now) (of-none (TextAt now)) cells caller old.number first own nothing.asks;
      }) is left stops holds
      (λ leaves. nothing-stays cells caller old.number first own now
      (entry.Refused old.number old.statements (code why) ∷ []) leaves nothing.learns)
      (λ more. record { why = why; right = right; number = refl; is = refl })
