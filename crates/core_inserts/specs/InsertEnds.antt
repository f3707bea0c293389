-- How an INSERT ends that found its cube, and what it has then done.
-- Source: AOSI (ICDE 2018), appends of a transaction; Cubrick (VLDB 2016), rows by coordinates. A promise speaks of
-- every run that goes on, as with prophecy variables (Abadi and Lamport, 1991).
use Rattle.std.specs.Prelude.{◌≡◌, ℕ, List, length, map, Option, Some, None}
use Rattle.core_agreements.specs.PostsForOperations.{StandForAll, batches_posted, rows_of_batches}
use Rattle.core_changes.specs.ChangesUnderWay.{HasAnswered, HasEnded, Learns}
use Rattle.core_events.specs.Events.{Opening, ClientCall}
use Rattle.core_program.specs.CoreFits.{CoreEntry}
use Rattle.core_states.specs.declared.session.CoreSession.{CoreSession}
use Rattle.cube_core.specs.declared.cell.CoreCell.{CoreCell}
use Rattle.cube_journal.specs.Refusals.{code, of_misfit}
use Rattle.cube_journal.specs.declared.journal_entry.AbortCause.{AbortCause}
use Rattle.cube_journal.specs.declared.journal_entry.AbortCause.TheVariants as abort
use Rattle.cube_journal.specs.declared.refusal.Refusal.{Refusal}
use Rattle.cube_journal.specs.declared.refusal.Refusal.TheVariants as refusal
use Rattle.cube_journal.specs.declared.reply.Reply.{Reply}
use Rattle.cube_journal.specs.declared.reply.Reply.TheVariants as reply
use Rattle.cube_language.specs.Cubes.{sizes_of}
use Rattle.cube_language.specs.Misfits.{FitsCube, HasMisfit}
use Rattle.cube_language.specs.declared.decl.Decl.{Decl}
use Rattle.cube_language.specs.declared.misfit.Misfit.{Misfit}
use Rattle.cube_language.specs.declared.statement.Statement.{Statement}
use Rattle.cube_language.specs.declared.statement.Statement.TheVariants.{Insert}
use Rattle.cube_run.specs.LoadedRows.{first_without_place, row_of_values}
use Rattle.cube_run.specs.RunTransactions.{rows_of_cube}
use Rattle.cube_values.specs.Batches.{Batch}
use Rattle.cube_values.specs.declared.call_error.CallError.{CallError}
use Rattle.cube_values.specs.declared.call_error.CallError.TheVariants.{Fault, NoMemory}
use Rattle.cube_values.specs.declared.row.CodedRow.{CodedRow}
use Rattle.inserted_rows.specs.RowsInTheEnd.{HoldsInTheEnd, IsBatchOfInsert}
use Rattle.linked_shards.specs.declared.cell.CoreShard.{CoreShard}
use Rattle.core_changes.specs.ChangeEnds.{ChangeEnd, Finished, Failed, RefusedBefore}
use Rattle.posted_pasts.specs.PostsAdded.{AddsAtEpoch, AddsNoOperation, AddsOperations, batches_among}
use Rattle.row_encoding.specs.CodedInserts.{HaveTextIn}
use Rattle.session_batches.specs.RowPosts.{row_posts}
use Rattle.session_batches.specs.declared.answers.PutEnd.{PutEnd}
use Rattle.session_batches.specs.declared.answers.PutEnd.TheVariants as put
use Rattle.session_desk.specs.declared.answered.Answered.{Answered}
use Rattle.statement_check.specs.OwnParts.{inserted_rows}

-- An INSERT.
abbrev pub InsertsRows : Statement → Type 0
InsertsRows (Insert cube rows) = Unit {0}
InsertsRows s = ⊥

-- The cause with which rows that were put end the change, where a shard refused its own.
abbrev pub cause_of_put : PutEnd → Option AbortCause
cause_of_put put.Done = None
cause_of_put (put.ShardFull shard rows) = Some (abort.ShardFull shard rows)
cause_of_put (put.OutOfMemory shard) = Some abort.NoMemory

-- A full shard, or want of memory, and the refusal that it is.
abbrev pub IsPutFailure : AbortCause → Type 0
IsPutFailure abort.NoMemory = Unit {0}
IsPutFailure (abort.ShardFull shard rows) = Unit {0}
IsPutFailure cause = ⊥

abbrev pub failure_refusal : AbortCause → Refusal
failure_refusal (abort.ShardFull shard rows) = refusal.ShardFull shard rows
failure_refusal cause = refusal.NoMemory

-- The batches of rows of a cube that are posted to so many shards at an epoch.
abbrev pub posted_batches : Decl → ℕ → ℕ → ℕ → List CodedRow → List (List CodedRow)
posted_batches d shards place epoch rows = batches_among (row_posts (sizes_of d.dims) shards place epoch rows)

-- The refusal of an INSERT that fails a test on its cube, or for whose tests memory ran out.
abbrev pub misfit_refusal : CallError Misfit → Refusal
misfit_refusal (Fault misfit) = of_misfit misfit
misfit_refusal NoMemory = refusal.NoMemory

-- An INSERT on its cube is refused for want of memory, for the first test that it fails there, or for the first of its
-- texts that finds no place in its dictionary.
pub data IsRefusalOn (cells : List (CoreCell CoreShard)) (caller : ℕ) (now : List CoreEntry) (place : ℕ) (d : Decl)
    (s : Statement) : Refusal → Type 0 where
  without_memory : IsRefusalOn cells caller now place d s refusal.NoMemory
  unfit : (misfit : Misfit) → HasMisfit d s misfit → IsRefusalOn cells caller now place d s (of_misfit misfit)
  full : (text : List ℕ) → FitsCube d s
      → HoldsInTheEnd cells caller now place (λ lists. first_without_place d lists (inserted_rows s) ≡ Some text)
      → IsRefusalOn cells caller now place d s (refusal.DictionaryFull text)

-- A text for a dimension of its cube, which an INSERT that fits it has in one of its rows.
pub record IsInsertText (place : ℕ) (d : Decl) (s : Statement) (cube dim : ℕ) (text : List ℕ) : Type 0 where
  pub here : cube ≡ place
  pub fits_it : FitsCube d s
  pub has : HaveTextIn (inserted_rows s) dim text

module _ (cells : List (CoreCell CoreShard)) (caller : ℕ) where
  module _ (now : List CoreEntry) (place : ℕ) (d : Decl) (s : Statement) where
    -- A batch stands for the rows of an INSERT that fits the cube, in each run that goes on.
    pub record HasBatch (batch : Batch) : Type 0 where
      pub fits_it : FitsCube d s
      pub rows : IsBatchOfInsert cells caller now place d (inserted_rows s) batch

    -- It is refused so, with the number that the journal has.
    pub record IsRefusedOn (n : ℕ) (said : Reply) : Type 0 where
      pub why : Refusal
      pub right : IsRefusalOn cells caller now place d s why
      pub number : n ≡ code why
      pub is : said ≡ reply.Refused why

    -- An INSERT fits the cube, and each of its texts has a place in each run that goes on.
    pub record CanBeStored : Type 0 where
      pub fits_it : FitsCube d s
      pub places : HoldsInTheEnd cells caller now place
          (λ lists. first_without_place d lists (inserted_rows s) ≡ None)

    -- It has failed where it could be stored: a shard had no room for its rows, or memory ran out.
    pub record IsFailedInsert (cause : AbortCause) (said : Reply) : Type 0 where
      pub put : IsPutFailure cause
      pub storable : CanBeStored
      pub is : said ≡ reply.Refused (failure_refusal cause)

    -- What it is answered, by its end: where it is done how many rows are stored, and the epoch of its writer.
    abbrev pub AnswersInsert : ChangeEnd → Reply → Type 0
    AnswersInsert (Finished writer round) said = said ≡ reply.Stored (length (inserted_rows s)) writer.epoch
    AnswersInsert (Failed writer cause) said = IsFailedInsert cause said
    AnswersInsert (RefusedBefore n) said = IsRefusedOn n said

  module _ (old : CoreSession) (s : Statement) (own now : List CoreEntry) (place : ℕ) (d : Decl) where
    abbrev LearnsOf : (ℕ → Opening → List ClientCall → List ClientCall → Type 0) → Type 0
    LearnsOf Adds = Learns cells caller old s own now Adds

    -- Batches were posted at an epoch, which stand for the rows of the INSERT in each run that goes on.
    pub record HasPutBatches (epoch : ℕ) : Type 0 where
      pub storable : CanBeStored now place d s
      pub batches : List (List CodedRow)
      pub posted : LearnsOf (AddsOperations place epoch (batches_posted batches))
      pub stand : HoldsInTheEnd cells caller now place (λ lists. StandForAll d lists (rows_of_batches batches)
          (rows_of_cube d.name (map (row_of_values d) (inserted_rows s))))

    -- What was posted, by the end.
    abbrev pub PutsByEnd : ChangeEnd → Type 0
    PutsByEnd (Finished writer round) = HasPutBatches writer.epoch
    PutsByEnd (Failed writer cause) = LearnsOf (AddsAtEpoch writer.epoch)
    PutsByEnd (RefusedBefore n) = LearnsOf AddsNoOperation

    -- The counted INSERT has ended, and is answered by its end; and so it is where it is answered.
    abbrev pub HasInserted : CoreSession → Reply → Type 0
    HasInserted new said = HasEnded cells caller old s own now (IsInsertText place d s) PutsByEnd
        (AnswersInsert now place d s) new said

    abbrev pub AnswersAsInsert : CoreSession → Answered → Type 0
    AnswersAsInsert new answered =
        HasAnswered cells caller old s own now (IsInsertText place d s) PutsByEnd (AnswersInsert now place d s) new
        answered
