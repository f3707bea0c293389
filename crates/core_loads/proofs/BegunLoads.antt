-- A counted LOAD may change rows, has read its file, and has put its records by a writer.
use Rattle.std.proofs.Common.{◌≡◌, ℕ, false, inl, inr, List, [], None, Result, refl, sym, subst, append-nil}
use Rattle.std.proofs.lemmas.Option.{none-some}
use mathlib.Core.List.{IsPrefix}
use Rattle.core_changes.proofs.ChangeCalls.{by-more-calls}
use Rattle.core_changes.proofs.OperationsAdded.{epoch-then-epoch, none-at-epoch, none-then-some}
use Rattle.core_changes.specs.CallsOfChanges.{IsCallOfChange, LeavesForChange}
use Rattle.core_changes.specs.ChangeEnds.{begun_entries}
use Rattle.core_changes.specs.ChangesUnderWay.{HasBegunWith, HasChangedNothing}
use Rattle.core_agreements.specs.PostsForOperations.{batches_posted}
use Rattle.core_loads.proofs.StepsOfLoads.{load-of}
use Rattle.core_loads.proofs.TextsOfLoads.{asks-as, of-none}
use Rattle.core_loads.specs.LoadEnds.{HoldsOfRecords, NoText}
use Rattle.core_loads.specs.ShelfLoads.{CountsLoad, IsAnsweredFor, IsFileRead, LoadsRows, ShelfSeen}
use Rattle.core_names.proofs.GivenCodes.{still-told as numbers-told}
use Rattle.core_names.specs.CoreEncoders.{MayAskForCodes}
use Rattle.core_names.specs.KnownNumbers.{TextsByDim, AreNumbersTold}
use Rattle.core_program.specs.CoreFits.{CoreEntry}
use Rattle.core_states.specs.CorePasts.{last_number}
use Rattle.core_states.specs.declared.session.CoreSession.{CoreSession}
use Rattle.csv_load.specs.FileRecords.{RecordFields}
use Rattle.csv_load.specs.Loads.{BeginsLoad, LoadState}
use Rattle.cube_core.specs.declared.cell.CoreCell.{CoreCell}
use Rattle.cube_journal.specs.declared.journal_entry.JournalEntry.{JournalEntry}
use Rattle.cube_journal.specs.declared.refusal.Refusal.TheVariants as refusal
use Rattle.cube_journal.specs.declared.reply.Reply.{Reply}
use Rattle.cube_journal.specs.declared.reply.Reply.TheVariants as reply
use Rattle.cube_language.specs.declared.bad_row.BadRow.{BadRow}
use Rattle.cube_language.specs.declared.decl.Decl.{Decl}
use Rattle.cube_language.specs.declared.decl.DimDecl.{DimDecl}
use Rattle.cube_language.specs.declared.statement.Statement.{Statement}
use Rattle.cube_language.specs.declared.statement.Statement.TheVariants.{Load}
use Rattle.cube_run.specs.LoadedRows.{records_looked_at}
use Rattle.cube_run.specs.RunRecords.{LoadedFile}
use Rattle.cube_run.specs.SessionStates.{Mode, Idle, Open, Aborted}
use Rattle.cube_run.specs.StatementEntries.{is_aborted}
use Rattle.cube_run.specs.StepOutcomes.{refused_by_mode}
use Rattle.cube_values.specs.declared.row.CodedRow.{CodedRow}
use Rattle.cube_values.specs.declared.row.Row.{Row}
use Rattle.cube_values.specs.declared.snapshot.Snapshot.{Snapshot}
use Rattle.scripted_pasts.proofs.AskingOnly.{only-then}
use Rattle.scripted_pasts.specs.AskedTexts.{AsksOnly}
use Rattle.inserted_rows.specs.RowsInTheEnd.{HoldsInTheEnd, IsToldOfCubeAt}
use Rattle.known_cubes.proofs.ToldCubes.{told-later}
use Rattle.known_cubes.specs.KnownCubes.{IsToldOfCube}
use Rattle.linked_shards.specs.CellShards.{CoreShardStands}
use Rattle.linked_shards.specs.declared.cell.CoreShard.{CoreShard}
use Rattle.loaded_batches.proofs.LeftByLoading.{by-such, no-entries, nothing-else, speaks, without-readers}
use Rattle.loaded_batches.specs.LoadEnds.{looked_at}
use Rattle.loaded_batches.specs.LoadingCalls.{GoesOnLoading}
use Rattle.loaded_files.specs.LoadedFiles.{LoadAnswer, OpensLoad, loaded_file}
use Rattle.outside.specs.Given.{whole}
use Rattle.posted_pasts.specs.PostsAdded.{AddsAtEpoch, AddsNoOperation, AddsOperations, LearnsThat}
use Rattle.row_encoding.specs.CodedLoads.{final_records}
use Rattle.core_cubes.specs.MadeAndFound.{IsRefusedByName}
use Rattle.scripted_pasts.specs.Performed.{WhateverFile}
use Rattle.scripted_pasts.specs.Served.{PerformsWatchedOverShards}
use Rattle.session_desk.specs.Executed.{IfReplied}
use Rattle.session_desk.specs.FileReplies.{IsRefusedUnread}
use Rattle.session_desk.specs.declared.answered.Answered.{Answered}
use Rattle.session_desk.specs.declared.answered.Answered.TheVariants.{Replied, Stopped}
use Rattle.session_replies.specs.Modes.{mode_of}
use Rattle.session_texts.specs.ToldTexts.{AreCubeTextsTold}
use Rattle.shard_events.specs.ShardsInRuns.{FitsShard, ShardAnswerSays}

-- A session that may execute a LOAD has no aborted transaction.
active-for : (m : Mode) (cube path : List ℕ) (reject : ℕ) → refused_by_mode m (Load cube path reject) ≡ None
    → is_aborted m ≡ false
active-for Idle cube path reject may = refl
active-for (Open writer) cube path reject may = refl
active-for (Aborted epoch) cube path reject may = absurd (none-some refusal.TransactionAborted (sym may))

pub is-active : (m : Mode) (s : Statement) → LoadsRows s → refused_by_mode m s ≡ None → is_aborted m ≡ false
is-active m s loads may =
    let load = load-of s loads in
    active-for m load.cube load.path load.reject
    (subst (λ (t : Statement). refused_by_mode m t ≡ None) load.is may)

-- It was told of a cube still, and of its texts.
pub still-told : (own now : List CoreEntry) (place : ℕ) (d : Decl) → IsPrefix own now → IsToldOfCubeAt own place d
    → IsToldOfCubeAt now place d
still-told own now place d more told = (
  told.0,
  subst (λ (l : List CoreEntry). IsToldOfCube l told.0 place d) more.1 (told-later own more.0 told.0 place d told.1),
)

pub texts-still-told : (own now : List CoreEntry) (place : ℕ) (dims : List DimDecl) (known : TextsByDim)
    → IsPrefix own now → AreCubeTextsTold own place dims known → AreCubeTextsTold now place dims known
texts-still-told own now place dims known more told = record {
  long = told.long;
  right =
      subst (λ (l : List CoreEntry). AreNumbersTold l place dims known) more.1
      (numbers-told own more.0 place dims known told.right);
}

-- ---- the records are put

module _ (cells : List (CoreCell CoreShard)) (caller : ℕ) (old : CoreSession) (s : Statement)
    (first own now : List CoreEntry) (IsText : ℕ → ℕ → List ℕ → Type 0) (writer : Snapshot) where
  abbrev Asks : (ℕ → ℕ → List ℕ → Type 0) → List CoreEntry → List CoreEntry → Type 0
  Asks Is from to = LearnsThat FitsShard CoreShardStands ShardAnswerSays (AsksOnly Is) cells caller old.number from to

  none-yet : Asks NoText first own → Asks IsText first own
  none-yet = asks-as NoText IsText (of-none IsText) cells caller old.number first own

  -- In a transaction that is open a change has begun when nothing is changed.
  pub begun-inside : mode_of old.mode ≡ Open writer → HasChangedNothing cells caller old s first own NoText
      → HasBegunWith cells caller old s first own IsText writer (AddsAtEpoch writer.epoch)
  begun-inside is nothing = record {
    left =
        subst (λ (m : Mode). LeavesForChange cells caller old.number old.statements s first own
        (begun_entries old.number old.statements m writer)) (sym is) nothing.left;
    learns = none-at-epoch cells caller old.number writer.epoch first own nothing.learns;
    asks = none-yet nothing.asks;
  }

  module _ (place : ℕ) (goes : GoesOnLoading cells caller old.number place writer.epoch own now) where
    loading-leaves : LeavesForChange cells caller old.number old.statements s own now []
    loading-leaves = record {
      more = goes.more;
      entries = no-entries cells caller old.number place writer.epoch own now goes;
      calls =
          by-such cells caller old.number place writer.epoch own now goes (IsCallOfChange old.statements s)
          (λ c is. record {
            speaks = speaks place writer.epoch old.statements s c is;
            readers = without-readers place writer.epoch c is;
          });
    }

    module _ (begun : HasBegunWith cells caller old s first own NoText writer AddsNoOperation)
        (asked : Asks IsText own now) where
      abbrev began : List JournalEntry
      began = begun_entries old.number old.statements (mode_of old.mode) writer

      still-begun : LeavesForChange cells caller old.number old.statements s first now began
      still-begun =
          subst (λ (es : List JournalEntry).
          LeavesForChange cells caller old.number old.statements s first now es) (append-nil began)
          (by-more-calls cells caller old.number old.statements s first own now began [] begun.left loading-leaves)

      then-asks : Asks IsText first now
      then-asks =
          only-then FitsShard CoreShardStands ShardAnswerSays cells caller old.number IsText first own now goes.more
          (none-yet begun.asks) asked

      pub loading-at-epoch : HasBegunWith cells caller old s first now IsText writer (AddsAtEpoch writer.epoch)
      loading-at-epoch = record {
        left = still-begun;
        learns =
            epoch-then-epoch cells caller old.number writer.epoch first own now goes.more
            (none-at-epoch cells caller old.number writer.epoch first own begun.learns)
            (nothing-else cells caller old.number place writer.epoch own now goes);
        asks = then-asks;
      }

      pub loading-batches : (batches : List (List CodedRow))
          → LearnsThat FitsShard CoreShardStands ShardAnswerSays
          (AddsOperations place writer.epoch (batches_posted batches)) cells caller old.number own now
          → HasBegunWith cells caller old s first now IsText writer
          (AddsOperations place writer.epoch (batches_posted batches))
      loading-batches batches posted = record {
        left = still-begun;
        learns =
            none-then-some cells caller old.number place writer.epoch (batches_posted batches) first own now goes.more
            begun.learns posted;
        asks = then-asks;
      }

-- What is so of the records at which a load looks is so of those of its file.
pub of-records : (cells : List (CoreCell CoreShard)) (caller : ℕ) (now : List CoreEntry) (place : ℕ) (d : Decl)
    (allowed : ℕ) (load : LoadState) (bytes : List ℕ)
    (Holds : List (List (List ℕ)) → List (Result Row BadRow) → Type 0) → BeginsLoad load d bytes
    → HoldsInTheEnd cells caller now place (λ lists. Holds lists (looked_at d allowed load lists))
    → HoldsOfRecords cells caller now place d allowed (loaded_file (whole bytes)) Holds
of-records cells caller now place d allowed load bytes Holds begins holds = record {
  bytes = bytes;
  file_is = refl;
  holds =
      subst (λ (left : List RecordFields). HoldsInTheEnd cells caller now place
      (λ lists. Holds lists (records_looked_at allowed (final_records d lists left)))) begins.all holds;
}

-- ---- the file

-- It opened its file, and is answered for that.
pub has-read : (seen : ShelfSeen) (path : List ℕ) (d : Decl) (answer : LoadAnswer)
    (opened : OpensLoad seen.told seen.calls seen.new_calls path d answer) → CountsLoad seen answer
    → (answered : Answered) → IfReplied answered (IsAnsweredFor answer)
    → IfReplied answered (λ said. IsFileRead seen path said (loaded_file opened.given))
has-read seen path d answer opened counts (Replied said) is =
    inl (record { decl = d; answer = answer; opened = opened; counts = counts; answered = is }, refl)
has-read seen path d answer opened counts Stopped is = tt

-- Memory ran out before it came to its file.
pub has-left : (seen : ShelfSeen) (path : List ℕ) (file : LoadedFile) → seen.new_calls ≡ seen.calls
    → seen.new_faults ≡ seen.faults → seen.new_absences ≡ seen.absences → (answered : Answered)
    → IfReplied answered (λ said. said ≡ reply.Refused refusal.NoMemory)
    → IfReplied answered (λ said. IsFileRead seen path said file)
has-left seen path file calls faults absences (Replied said) is =
    inr (record {
      calls = calls;
      faults = faults;
      absences = absences;
      refused = subst (λ (r : Reply). IsRefusedUnread r) (sym is) tt;
    })
has-left seen path file calls faults absences Stopped is = tt

-- ---- performed with a file

-- What is performed with a file of which this is so is performed with one of which that is so.
pub performed-as : (cells : List (CoreCell CoreShard)) (caller : ℕ) (IsFile Then : LoadedFile → Type 0)
    → ((file : LoadedFile) → IsFile file → Then file) → (s : Statement) (old : CoreSession) (own : List CoreEntry)
    (new : CoreSession) (now : List CoreEntry) (said : Reply)
    → PerformsWatchedOverShards cells caller IsFile s old own new now said
    → PerformsWatchedOverShards cells caller Then s old own new now said
performed-as cells caller IsFile Then step s old own new now said performs watch lets past stands counted =
    let h = performs watch lets past stands counted in
    record {
      after = h.after;
      added = h.added;
      more = h.more;
      becomes = h.becomes;
      goes_on = h.goes_on;
      stands_then = h.stands_then;
      file = step (h.after.files (last_number h.after)) h.file;
      answers = h.answers;
    }

-- It is performed with the file that was read.
pub performed-from : (cells : List (CoreCell CoreShard)) (caller : ℕ) (seen : ShelfSeen) (path : List ℕ)
    (file : LoadedFile) (s : Statement) (old : CoreSession) (own : List CoreEntry) (new : CoreSession)
    (now : List CoreEntry) (answered : Answered) → IfReplied answered (λ said. IsFileRead seen path said file)
    → IfReplied answered (PerformsWatchedOverShards cells caller (λ loaded. loaded ≡ file) s old own new now)
    → IfReplied answered (λ said.
    PerformsWatchedOverShards cells caller (IsFileRead seen path said) s old own new now said)
performed-from cells caller seen path file s old own new now (Replied said) read performs =
    performed-as cells caller (λ (loaded : LoadedFile). loaded ≡ file) (IsFileRead seen path said)
    (λ loaded is. subst (λ (f : LoadedFile). IsFileRead seen path said f) (sym is) read) s old own new now said performs
performed-from cells caller seen path file s old own new now Stopped read performs = tt

unread-by-name : (name : List ℕ) (said : Reply) → IsRefusedByName name said → IsRefusedUnread said
unread-by-name name said (inl unknown) = subst (λ (r : Reply). IsRefusedUnread r) (sym unknown) tt
unread-by-name name said (inr memory) = subst (λ (r : Reply). IsRefusedUnread r) (sym memory) tt

-- Where its cube was not found it is so with whatever file.
pub unread-from : (cells : List (CoreCell CoreShard)) (caller : ℕ) (seen : ShelfSeen) (path : List ℕ) (s : Statement)
    (old : CoreSession) (own : List CoreEntry) (new : CoreSession) (now : List CoreEntry) (name : List ℕ)
    (answered : Answered) → seen.new_calls ≡ seen.calls → seen.new_faults ≡ seen.faults
    → seen.new_absences ≡ seen.absences → IfReplied answered (IsRefusedByName name)
    → IfReplied answered (PerformsWatchedOverShards cells caller WhateverFile s old own new now)
    → IfReplied answered (λ said.
    PerformsWatchedOverShards cells caller (IsFileRead seen path said) s old own new now said)
unread-from cells caller seen path s old own new now name (Replied said) calls faults absences is performs =
    performed-as cells caller WhateverFile (IsFileRead seen path said)
    (λ file any. inr (record {
      calls = calls;
      faults = faults;
      absences = absences;
      refused = unread-by-name name said is;
    })) s old own new now said performs
unread-from cells caller seen path s old own new now name Stopped calls faults absences is performs = tt

-- It may ask for codes still.
pub still-may-ask : (cells : List (CoreCell CoreShard)) (caller : ℕ) (own now : List CoreEntry) (session : ℕ)
    (known : TextsByDim) (place : ℕ) (d : Decl) → IsPrefix own now
    → MayAskForCodes FitsShard CoreShardStands ShardAnswerSays cells caller own session known place d
    → MayAskForCodes FitsShard CoreShardStands ShardAnswerSays cells caller now session known place d
still-may-ask cells caller own now session known place d more may =
    let told = still-told own now place d more (may.name, may.cube) in
    let texts =
    texts-still-told own now place d.dims known more (record { long = may.long; right = may.right })
    in
    record {
      client = may.client;
      is_session = may.is_session;
      storable = may.storable;
      named = may.named;
      name = told.0;
      cube = told.1;
      long = texts.long;
      right = texts.right;
    }
