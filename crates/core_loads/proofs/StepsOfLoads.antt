-- A LOAD in the step of a run: what it is answered, and what it has done to rows, by its end.
use Rattle.std.proofs.Common.{◌≡◌, ◌∙◌, ℕ, ◌<◌, ◌≤◌, true, List, [], ◌∷◌, length, map, take, None, Result, refl, sym, ap, subst}
use Rattle.std.proofs.lemmas.Option.{none-some}
use Rattle.std.proofs.lemmas.Simd.{map-map}
use Rattle.core_changes.proofs.AnsweredSteps.{load-answered, load-done, load-full, load-rejected, load-unread}
use Rattle.core_changes.specs.StepsByWriters.{HasFailedBy, IsDoneBy}
use Rattle.core_loads.specs.LoadEnds.{IsOfBytes, IsRefusalOf, looked_in, without_memory, absent, too_long, unread}
use Rattle.core_loads.specs.ShelfLoads.{LoadsRows, allowed_loaded}
use Rattle.cube_journal.specs.Refusals.{code}
use Rattle.cube_journal.specs.declared.journal_entry.AbortCause.TheVariants as abort
use Rattle.cube_journal.specs.declared.journal_entry.JournalEntry.TheVariants as entry
use Rattle.cube_journal.specs.declared.refusal.Refusal.{Refusal}
use Rattle.cube_journal.specs.declared.refusal.Refusal.TheVariants as refusal
use Rattle.cube_journal.specs.declared.reply.Reply.TheVariants as reply
use Rattle.cube_language.specs.Misfits.{FitsCube}
use Rattle.cube_language.specs.declared.bad_row.BadRow.{BadRow}
use Rattle.cube_language.specs.declared.decl.Decl.{Decl}
use Rattle.cube_language.specs.declared.misfit.Misfit.TheVariants.{UnknownColumn, WrongKind, NotGrouped, NotAnItem, BadHaving, NotWatchable, CutsBrick, BadRow as BadRowIn}
use Rattle.cube_language.specs.declared.statement.Statement.{Statement}
use Rattle.cube_language.specs.declared.statement.Statement.TheVariants.{Select, Insert, Load, Delete, Begin, Commit, Rollback, Flush, Purge, ShowEpochs, CreateCube, Watch, ShowWatch}
use Rattle.cube_run.specs.LoadedRows.{judged_record, records_looked_at, rejections_among, rows_among}
use Rattle.cube_run.specs.RunRecords.{LoadedFile, RunRecord, Says}
use Rattle.cube_run.specs.RunText.{IsReply, shown_rejections}
use Rattle.cube_run.specs.RunTransactions.{rows_of_cube}
use Rattle.cube_run.specs.SessionStates.{Mode, Idle, Open}
use Rattle.cube_run.specs.SessionSteps.{SessionStep}
use Rattle.cube_run.specs.StatementEntries.{is_change}
use Rattle.cube_run.specs.StepOutcomes.{refused_by_mode}
use Rattle.cube_values.specs.declared.operation.Operation.TheVariants.{Put}
use Rattle.cube_values.specs.declared.row.Row.{Row}
use Rattle.cube_values.specs.declared.snapshot.Snapshot.{Snapshot}
use Rattle.condition_spans.specs.Codes.{lists_at}
use Rattle.csv_load.specs.FileRecords.{records_of}
use Rattle.found_cubes.specs.CubesOnRecord.{HasCubeAt}
use Rattle.posted_pasts.specs.DoneChanges.{DoesOperation}
use Rattle.row_encoding.specs.CodedLoads.{record_result}
use Rattle.session_replies.proofs.Loading.{file_missing, file_too_long, unread_alone}
use Rattle.session_replies.proofs.Refusing.{without_memory as no-memory-noted}
use Rattle.session_replies.specs.RowSteps.{FitsItsCube, GivesRecords, IsOnCube}
use Rattle.session_replies.specs.StepParts.{IsStep}

pub record IsLoad (s : Statement) : Type 0 where
  pub cube : List ℕ
  pub path : List ℕ
  pub reject : ℕ
  pub is : s ≡ Load cube path reject

pub load-of : (s : Statement) → LoadsRows s → IsLoad s
load-of (Load cube path reject) form = record { cube = cube; path = path; reject = reject; is = refl }
load-of (Insert cube rows) form = absurd form
load-of (Select items cube conds group having order limit) form = absurd form
load-of (Delete cube conds) form = absurd form
load-of Begin form = absurd form
load-of Commit form = absurd form
load-of Rollback form = absurd form
load-of Flush form = absurd form
load-of Purge form = absurd form
load-of ShowEpochs form = absurd form
load-of (CreateCube decl) form = absurd form
load-of (Watch items cube conds group) form = absurd form
load-of ShowWatch form = absurd form

-- A LOAD changes rows.
pub changes-rows : (s : Statement) → IsLoad s → is_change s ≡ true
changes-rows s l = ap is_change l.is

-- It fits whatever cube.
load-fits : (d : Decl) (cube path : List ℕ) (reject : ℕ) → FitsCube d (Load cube path reject)
load-fits d cube path reject (UnknownColumn name) fails = none-some name fails
load-fits d cube path reject (WrongKind name) fails = none-some name fails
load-fits d cube path reject (NotGrouped name) fails = none-some name fails
load-fits d cube path reject (NotAnItem item) fails = none-some item fails
load-fits d cube path reject (BadHaving item) fails = none-some item fails
load-fits d cube path reject (NotWatchable item) fails = none-some item fails
load-fits d cube path reject (CutsBrick name) fails = fails
load-fits d cube path reject (BadRowIn row why) fails = fails

pub fits-any : (d : Decl) (s : Statement) → IsLoad s → FitsCube d s
fits-any d s l = subst (λ (t : Statement). FitsCube d t) (sym l.is) (load-fits d l.cube l.path l.reject)

-- The records of its file, in the end.
pub gives-records : (run : RunRecord) (step : SessionStep) (s : Statement) (place : ℕ) (d : Decl) (file : LoadedFile)
    (bytes : List ℕ) (allowed : ℕ) → HasCubeAt run step s place d → step.file ≡ file → IsOfBytes file bytes
    → GivesRecords run step d allowed (looked_in d allowed bytes (lists_at run.names place))
gives-records run step s place d file bytes allowed at file_is of_bytes =
    let lists = lists_at run.names place in
    record {
      records = λ e. map (record_result e) (records_of bytes);
      file = file_is ∙ of_bytes;
      looked_at =
          ap (λ (texts : List (List (List ℕ))).
          records_looked_at allowed (map (judged_record d texts) (map (record_result d) (records_of bytes)))) at.names
          ∙ ap (records_looked_at allowed) (map-map (judged_record d lists) (record_result d) (records_of bytes));
    }

module _ (run : RunRecord) (step : SessionStep) (d : Decl) (looked : List (Result Row BadRow)) where
  -- It has put the rows among the records at the epoch of its writer,
  pub put-done : (s : Statement) (writer : Snapshot) → IsLoad s → IsDoneBy run step s writer → IsOnCube run step s d
      → GivesRecords run step d (allowed_loaded s) looked
      → DoesOperation run step writer.epoch (Put (rows_of_cube d.name (rows_among looked)))
  put-done s writer l =
      subst (λ (t : Statement). IsDoneBy run step t writer → IsOnCube run step t d
      → GivesRecords run step d (allowed_loaded t) looked
      → DoesOperation run step writer.epoch (Put (rows_of_cube d.name (rows_among looked))))
      (sym l.is) (load-done run step l.cube l.path l.reject d looked writer)

  -- and is answered how many they are, and which records are bad.
  pub loaded-answer : (s : Statement) (writer : Snapshot) → IsLoad s → IsDoneBy run step s writer
      → FitsItsCube run step s d → GivesRecords run step d (allowed_loaded s) looked
      → length (rejections_among looked) ≤ allowed_loaded s
      → IsReply run step
      (reply.Loaded (length (rows_among looked)) (length (rejections_among looked))
      (take shown_rejections (rejections_among looked)) writer.epoch)
  loaded-answer s writer l =
      subst (λ (t : Statement). IsDoneBy run step t writer → FitsItsCube run step t d
      → GivesRecords run step d (allowed_loaded t) looked → length (rejections_among looked) ≤ allowed_loaded t
      → IsReply run step
      (reply.Loaded (length (rows_among looked)) (length (rejections_among looked))
      (take shown_rejections (rejections_among looked)) writer.epoch))
      (sym l.is) (load-answered run step l.cube l.path l.reject d looked writer)

  -- It fails where a shard is full,
  pub full-answer : (s : Statement) (writer : Snapshot) (shard rows : ℕ) → IsLoad s
      → HasFailedBy step s writer (abort.ShardFull shard rows) → FitsItsCube run step s d
      → GivesRecords run step d (allowed_loaded s) looked → length (rejections_among looked) ≤ allowed_loaded s
      → IsReply run step (reply.Refused (refusal.ShardFull shard rows))
  full-answer s writer shard rows l =
      subst (λ (t : Statement). HasFailedBy step t writer (abort.ShardFull shard rows) → FitsItsCube run step t d
      → GivesRecords run step d (allowed_loaded t) looked → length (rejections_among looked) ≤ allowed_loaded t
      → IsReply run step (reply.Refused (refusal.ShardFull shard rows)))
      (sym l.is) (λ h fits gives few.
      load-full run step l.cube l.path l.reject d looked writer shard rows h fits gives few)

  -- or one record more than it allows is bad.
  pub rejected-answer : (s : Statement) (writer : Snapshot) → IsLoad s
      → HasFailedBy step s writer abort.TooManyRejected → FitsItsCube run step s d
      → GivesRecords run step d (allowed_loaded s) looked → allowed_loaded s < length (rejections_among looked)
      → IsReply run step
      (reply.Refused (refusal.TooManyRejected (length (rejections_among looked)) (allowed_loaded s)))
  rejected-answer s writer l =
      subst (λ (t : Statement). HasFailedBy step t writer abort.TooManyRejected → FitsItsCube run step t d
      → GivesRecords run step d (allowed_loaded t) looked → allowed_loaded t < length (rejections_among looked)
      → IsReply run step
      (reply.Refused (refusal.TooManyRejected (length (rejections_among looked)) (allowed_loaded t))))
      (sym l.is) (load-rejected run step l.cube l.path l.reject d looked writer)

module _ (run : RunRecord) (step : SessionStep) (d : Decl) where
  -- Or its file cannot be read, in a transaction that is open.
  pub unread-answer : (s : Statement) (writer : Snapshot) → IsLoad s → HasFailedBy step s writer abort.ReadFault
      → step.state.mode ≡ Open writer → FitsItsCube run step s d → IsReply run step (reply.Refused refusal.ReadFault)
  unread-answer s writer l =
      subst (λ (t : Statement). HasFailedBy step t writer abort.ReadFault → step.state.mode ≡ Open writer
      → FitsItsCube run step t d → IsReply run step (reply.Refused refusal.ReadFault))
      (sym l.is) (load-unread run step l.cube l.path l.reject d writer)

  -- It is refused before it has changed anything.
  pub refused-answer : (s : Statement) (m : Mode) (file : LoadedFile) (r : Refusal) → IsLoad s → IsRefusalOf m file r
      → IsStep step m (Says s) (entry.Refused step.session step.number (code r) ∷ []) → refused_by_mode m s ≡ None
      → step.file ≡ file → FitsItsCube run step s d → IsReply run step (reply.Refused r)
  refused-answer s m file r l without_memory h may file_is fits = no-memory-noted run step m (Says s) h
  refused-answer s m file r l (absent missing) h may file_is fits =
      subst (λ (t : Statement). IsStep step m (Says t) (entry.Refused step.session step.number 8 ∷ [])
      → refused_by_mode m t ≡ None → FitsItsCube run step t d → IsReply run step (reply.Refused refusal.NoSuchFile))
      (sym l.is) (λ parts lets its.
      file_missing run step m l.cube l.path l.reject d parts lets its (file_is ∙ missing)) h may fits
  refused-answer s m file r l (too_long size large) h may file_is fits =
      subst (λ (t : Statement). IsStep step m (Says t) (entry.Refused step.session step.number 9 ∷ [])
      → refused_by_mode m t ≡ None → FitsItsCube run step t d
      → IsReply run step (reply.Refused (refusal.FileTooLong size)))
      (sym l.is) (λ parts lets its.
      file_too_long run step m l.cube l.path l.reject d size parts lets its (file_is ∙ large)) h may fits
  refused-answer s m file r l (unread idle) h may file_is fits =
      subst (λ (t : Statement). IsStep step Idle (Says t) (entry.Refused step.session step.number 11 ∷ [])
      → FitsItsCube run step t d → IsReply run step (reply.Refused refusal.ReadFault))
      (sym l.is) (unread_alone run step l.cube l.path l.reject d)
      (subst (λ (mode : Mode). IsStep step mode (Says s) (entry.Refused step.session step.number 11 ∷ [])) idle h) fits
