-- How a LOAD ends that found its cube, and what it has then done with the records of its file.
-- Source: AOSI (ICDE 2018), appends of a transaction; Cubrick (VLDB 2016), rows by coordinates. A promise speaks of
-- every run that goes on, as with prophecy variables (Abadi and Lamport, 1991).
use Rattle.std.specs.Prelude.{◌≡◌, ℕ, List, Result}
use Rattle.core_agreements.specs.PostsForOperations.{StandForAll, batches_posted, rows_of_batches}
use Rattle.core_changes.specs.ChangesUnderWay.{HasAnswered, HasEnded, Learns}
use Rattle.core_events.specs.Events.{Opening, ClientCall}
use Rattle.core_program.specs.CoreFits.{CoreEntry}
use Rattle.core_states.specs.declared.session.CoreSession.{CoreSession}
use Rattle.cube_core.specs.declared.cell.CoreCell.{CoreCell}
use Rattle.cube_journal.specs.Refusals.{code}
use Rattle.cube_journal.specs.declared.journal_entry.AbortCause.{AbortCause}
use Rattle.cube_journal.specs.declared.journal_entry.AbortCause.TheVariants as abort
use Rattle.cube_journal.specs.declared.refusal.Refusal.{Refusal}
use Rattle.cube_journal.specs.declared.refusal.Refusal.TheVariants as refusal
use Rattle.cube_journal.specs.declared.reply.Reply.{Reply}
use Rattle.cube_journal.specs.declared.reply.Reply.TheVariants as reply
use Rattle.cube_language.specs.declared.bad_row.BadRow.{BadRow}
use Rattle.cube_language.specs.declared.decl.Decl.{Decl}
use Rattle.cube_language.specs.declared.statement.Statement.{Statement}
use Rattle.cube_run.specs.LoadedRows.{records_looked_at, rows_among}
use Rattle.cube_run.specs.RunRecords.{LoadedFile, Missing, TooLarge}
use Rattle.cube_run.specs.RunTransactions.{rows_of_cube}
use Rattle.cube_run.specs.SessionStates.{Mode, Idle, Open}
use Rattle.cube_values.specs.declared.row.CodedRow.{CodedRow}
use Rattle.cube_values.specs.declared.row.Row.{Row}
use Rattle.cube_values.specs.declared.snapshot.Snapshot.{Snapshot}
use Rattle.csv_load.specs.FileRecords.{records_of}
use Rattle.csv_load.specs.Loads.{LoadState}
use Rattle.inserted_rows.specs.RowsInTheEnd.{HoldsInTheEnd}
use Rattle.linked_shards.specs.declared.cell.CoreShard.{CoreShard}
use Rattle.core_changes.specs.ChangeEnds.{ChangeEnd, Finished, Failed, RefusedBefore}
use Rattle.loaded_batches.specs.LoadEnds.{HaveFewBad, HaveManyBad, StandForRecords}
use Rattle.loaded_batches.specs.LoadTexts.{IsLoadText}
use Rattle.loaded_files.specs.LoadedFiles.{loaded_file}
use Rattle.outside.specs.Given.{whole}
use Rattle.posted_pasts.specs.PostsAdded.{AddsAtEpoch, AddsNoOperation, AddsOperations}
use Rattle.row_encoding.specs.CodedLoads.{final_records}
use Rattle.row_encoding.specs.declared.load.BadRecords.{BadRecords}
use Rattle.session_desk.specs.declared.answered.Answered.{Answered}
use Rattle.session_replies.specs.Modes.{mode_of}
use Rattle.core_loads.specs.ShelfLoads.{IsFileRead, ShelfSeen, allowed_loaded, path_loaded}
use Rattle.session_desk.specs.Executed.{IfReplied}

-- The records of a file of these bytes at which a LOAD looks that allows so many bad ones, by the names of its cube.
abbrev pub looked_in : Decl → ℕ → List ℕ → List (List (List ℕ)) → List (Result Row BadRow)
looked_in d allowed bytes lists = records_looked_at allowed (final_records d lists (records_of bytes))

-- A file has these bytes.
abbrev pub IsOfBytes : LoadedFile → List ℕ → Type 0
IsOfBytes file bytes = file ≡ loaded_file (whole bytes)

-- No text: for none a LOAD has asked before it looks at records.
abbrev pub NoText : ℕ → ℕ → List ℕ → Type 0
NoText cube dim text = ⊥

-- A LOAD is refused before it has changed anything for want of memory, since its file is not there or is too long, or,
-- where its session has no transaction, since the file cannot be read.
pub data IsRefusalOf (mode : Mode) (file : LoadedFile) : Refusal → Type 0 where
  without_memory : IsRefusalOf mode file refusal.NoMemory
  absent : file ≡ Missing → IsRefusalOf mode file refusal.NoSuchFile
  too_long : (size : ℕ) → file ≡ TooLarge size → IsRefusalOf mode file (refusal.FileTooLong size)
  unread : mode ≡ Idle → IsRefusalOf mode file refusal.ReadFault

-- It is refused so, with the number that the journal has.
pub record IsRefusedOf (mode : Mode) (file : LoadedFile) (n : ℕ) (said : Reply) : Type 0 where
  pub why : Refusal
  pub right : IsRefusalOf mode file why
  pub number : n ≡ code why
  pub is : said ≡ reply.Refused why

module _ (cells : List (CoreCell CoreShard)) (caller : ℕ) where
  module _ (now : List CoreEntry) (place : ℕ) (d : Decl) (allowed : ℕ) (file : LoadedFile) where
    -- A text for a dimension of its cube, in a record of its file at which the LOAD looks in each run that goes on.
    pub record IsFileText (cube dim : ℕ) (text : List ℕ) : Type 0 where
      pub bytes : List ℕ
      pub file_is : IsOfBytes file bytes
      pub load : LoadState
      pub all : load.left ≡ records_of bytes
      pub of_load : IsLoadText cells caller place d now allowed load cube dim text

    -- This holds of the records at which the LOAD looks, in each run that goes on.
    pub record HoldsOfRecords (Holds : List (List (List ℕ)) → List (Result Row BadRow) → Type 0) : Type 0 where
      pub bytes : List ℕ
      pub file_is : IsOfBytes file bytes
      pub holds : HoldsInTheEnd cells caller now place (λ lists. Holds lists (looked_in d allowed bytes lists))

    -- A LOAD that has begun fails so by a cause: memory ran out, a shard had no room for its rows, or one record more
    -- than it allows is bad. A file that cannot be read ends the transaction that is open.
    abbrev pub FailsBy : Mode → Snapshot → AbortCause → Refusal → Type 0
    FailsBy mode writer abort.NoMemory r = r ≡ refusal.NoMemory
    FailsBy mode writer (abort.ShardFull shard rows) r =
        (r ≡ refusal.ShardFull shard rows) × HoldsOfRecords (λ lists looked. HaveFewBad allowed looked)
    FailsBy mode writer abort.TooManyRejected r =
        (rejected : ℕ) × (r ≡ refusal.TooManyRejected rejected allowed)
        × HoldsOfRecords (λ lists looked. HaveManyBad allowed rejected looked)
    FailsBy mode writer abort.ReadFault r = (r ≡ refusal.ReadFault) × (mode ≡ Open writer)
    FailsBy mode writer cause r = ⊥

    -- It has failed so, and is refused.
    pub record IsFailedLoad (mode : Mode) (writer : Snapshot) (cause : AbortCause) (said : Reply) : Type 0 where
      pub why : Refusal
      pub fails : FailsBy mode writer cause why
      pub is : said ≡ reply.Refused why

    -- It is answered how many rows are stored, how many records are bad, the first of these, and the epoch of its
    -- writer.
    pub record IsLoadedAt (epoch : ℕ) (said : Reply) : Type 0 where
      pub rows : ℕ
      pub bad : BadRecords
      pub batches : List (List CodedRow)
      pub told : HoldsOfRecords (λ lists looked. StandForRecords d lists allowed looked batches rows bad)
      pub is : said ≡ reply.Loaded rows bad.count bad.first epoch

    -- What it is answered, by its end.
    abbrev pub AnswersLoad : Mode → ChangeEnd → Reply → Type 0
    AnswersLoad mode (Finished writer round) said = IsLoadedAt writer.epoch said
    AnswersLoad mode (Failed writer cause) said = IsFailedLoad mode writer cause said
    AnswersLoad mode (RefusedBefore n) said = IsRefusedOf mode file n said

  module _ (old : CoreSession) (s : Statement) (file : LoadedFile) (own now : List CoreEntry) (place : ℕ) (d : Decl)
    where
      abbrev LearnsOf : (ℕ → Opening → List ClientCall → List ClientCall → Type 0) → Type 0
      LearnsOf Adds = Learns cells caller old s own now Adds

      -- Batches were posted at an epoch, which stand for the rows among the records in each run that goes on.
      pub record HasLoadedBatches (epoch : ℕ) : Type 0 where
        pub batches : List (List CodedRow)
        pub posted : LearnsOf (AddsOperations place epoch (batches_posted batches))
        pub stand : HoldsOfRecords now place d (allowed_loaded s) file (λ lists looked.
            StandForAll d lists (rows_of_batches batches) (rows_of_cube d.name (rows_among looked)))

      -- What was posted, by the end.
      abbrev pub LoadsByEnd : ChangeEnd → Type 0
      LoadsByEnd (Finished writer round) = HasLoadedBatches writer.epoch
      LoadsByEnd (Failed writer cause) = LearnsOf (AddsAtEpoch writer.epoch)
      LoadsByEnd (RefusedBefore n) = LearnsOf AddsNoOperation

      -- What it is answered, by its end, in the mode that its session had.
      abbrev pub AnswersByEnd : ChangeEnd → Reply → Type 0
      AnswersByEnd end said = AnswersLoad now place d (allowed_loaded s) file (mode_of old.mode) end said

      -- The counted LOAD has ended with this file, and is answered by its end; and so it is where it is answered.
      abbrev pub HasLoaded : CoreSession → Reply → Type 0
      HasLoaded new said =
          HasEnded cells caller old s own now (IsFileText now place d (allowed_loaded s) file) LoadsByEnd AnswersByEnd
          new
          said

      abbrev pub AnswersAsLoad : CoreSession → Answered → Type 0
      AnswersAsLoad new answered =
          HasAnswered cells caller old s own now (IsFileText now place d (allowed_loaded s) file) LoadsByEnd
          AnswersByEnd
          new answered

  -- It has so answered with a file, which is the one that was read of the shelf, unless it is refused unread.
  pub record AnswersFromShelf (seen : ShelfSeen) (old : CoreSession) (s : Statement) (own now : List CoreEntry)
      (place : ℕ) (d : Decl) (new : CoreSession) (answered : Answered) : Type 0 where
    pub file : LoadedFile
    pub loads : AnswersAsLoad old s file own now place d new answered
    pub read : IfReplied answered (λ said. IsFileRead seen (path_loaded s) said file)
