-- The replies to LOAD.
use Rattle.std.proofs.Common.{◌≡◌, ◌∙◌, ℕ, ◌≤◌, ◌<◌, Bool, true, nat_lt, List, [], Option, Some, None, Result, length, map, take, refl, ap, sym, if◌then◌else◌}
use Rattle.std.proofs.lemmas.Bool.{le-ltb, lt-ltb}
use Rattle.std.proofs.lemmas.Option.{same_Some}
use Rattle.cube_values.specs.declared.row.Row.{Row}
use Rattle.cube_values.specs.declared.snapshot.Snapshot.{Snapshot}
use Rattle.cube_language.specs.declared.bad_row.BadRow.{BadRow}
use Rattle.cube_language.specs.declared.decl.Decl.{Decl}
use Rattle.cube_language.specs.declared.statement.Statement.TheVariants.{Load}
use Rattle.cube_journal.specs.declared.journal_entry.AbortCause.TheVariants as abort
use Rattle.cube_journal.specs.declared.journal_entry.JournalEntry.{JournalEntry}
use Rattle.cube_journal.specs.declared.refusal.Refusal.{Refusal}
use Rattle.cube_journal.specs.declared.refusal.Refusal.TheVariants as refusal
use Rattle.cube_journal.specs.declared.reply.Reply.{Reply}
use Rattle.cube_journal.specs.declared.reply.Reply.TheVariants as reply
use Rattle.cube_run.specs.LoadedRows.{judged_record, load_records, records_looked_at, rejections_among, rows_among}
use Rattle.cube_run.specs.RunRecords.{Missing, Records, RunRecord, Says, TooLarge, catalog_of, names_of_cube}
use Rattle.cube_run.specs.RunText.{IsReply, shown_rejections}
use Rattle.cube_run.specs.SessionStates.{Mode, Idle, Open, Aborted}
use Rattle.cube_run.specs.SessionSteps.{SessionStep}
use Rattle.cube_run.specs.StatementEntries.{leaves_refused}
use Rattle.cube_run.specs.StepOutcomes.{data_refusal, read_fault, refused_by_mode, refused_file, refused_first, shard_full}
use Rattle.session_replies.specs.RowEntries.{IsRoundAfter, lone_refusal, open_abort, own_abort, own_commit}
use Rattle.session_replies.specs.RowSteps.{FitsItsCube, IsOnCube, GivesRecords}
use Rattle.session_replies.specs.StepParts.{IsStep}
use Rattle.session_replies.proofs.Ends.{bound_none, with_parts}
use Rattle.session_replies.proofs.OnCubes.{declared_so, fits, stands}
use Rattle.session_replies.proofs.RowAnswers.{change_on_rows, changed_alone, changed_inside, ended_alone, ended_inside, meets_data, refusal_noted}

abbrev refused_for : ℕ → List (Result Row BadRow) → Option Refusal
refused_for reject looked =
    if nat_lt reject (length (rejections_among looked))
    then Some (refusal.TooManyRejected (length (rejections_among looked)) reject)
    else None

-- What a LOAD looks at, by the declaration of its cube.
looks_at : (run : RunRecord) (step : SessionStep) (cube path : List ℕ) (reject : ℕ) (d : Decl)
    (looked : List (Result Row BadRow)) → IsOnCube run step (Load cube path reject) d
    → (l : GivesRecords run step d reject looked)
    → load_records (catalog_of run) cube reject (Records l.records) ≡ looked
looks_at run step cube path reject d looked on l =
    let same = same_Some cube d.name on.needed in
    let is = declared_so run step (Load cube path reject) d on in
    (λ i. records_looked_at reject
    (map (judged_record (is i) (names_of_cube (catalog_of run) (same i))) (l.records (is i))))
    ∙ l.looked_at

pub loads : (run : RunRecord) (step : SessionStep) (cube path : List ℕ) (reject : ℕ) (d : Decl)
    (looked : List (Result Row BadRow)) → IsOnCube run step (Load cube path reject) d
    → GivesRecords run step d reject looked → load_records (catalog_of run) cube reject step.file ≡ looked
loads run step cube path reject d looked on l =
    ap (load_records (catalog_of run) cube reject) l.file ∙ looks_at run step cube path reject d looked on l

-- What its file refuses a LOAD for that gives records.
refuses : (run : RunRecord) (step : SessionStep) (cube path : List ℕ) (reject : ℕ) (d : Decl)
    (looked : List (Result Row BadRow)) → IsOnCube run step (Load cube path reject) d
    → GivesRecords run step d reject looked
    → data_refusal (catalog_of run) step.file (Says (Load cube path reject)) ≡ refused_for reject looked
refuses run step cube path reject d looked on l =
    ap (refused_file (catalog_of run) cube reject) l.file
    ∙ ap (refused_for reject) (looks_at run step cube path reject d looked on l)

few : (reject : ℕ) (looked : List (Result Row BadRow)) → length (rejections_among looked) ≤ reject
    → refused_for reject looked ≡ None
few reject looked h =
    ap (λ (b : Bool). if b then Some (refusal.TooManyRejected (length (rejections_among looked)) reject) else None)
    (le-ltb reject (length (rejections_among looked)) h)

many : (reject : ℕ) (looked : List (Result Row BadRow)) → reject < length (rejections_among looked)
    → refused_for reject looked ≡ Some (refusal.TooManyRejected (length (rejections_among looked)) reject)
many reject looked h =
    ap (λ (b : Bool). if b then Some (refusal.TooManyRejected (length (rejections_among looked)) reject) else None)
    (lt-ltb reject (length (rejections_among looked)) h)

abbrev said_of : ℕ → List (Result Row BadRow) → Reply
said_of epoch looked =
    reply.Loaded (length (rows_among looked)) (length (rejections_among looked))
    (take shown_rejections (rejections_among looked)) epoch

pub loaded_alone : (run : RunRecord) (step : SessionStep) (cube path : List ℕ) (reject : ℕ) (d : Decl)
    (looked : List (Result Row BadRow)) (epoch : ℕ) (deps : List ℕ) (round : List JournalEntry)
    → IsStep step Idle (Says (Load cube path reject)) (own_commit step epoch deps round)
    → IsRoundAfter run step round
    → FitsItsCube run step (Load cube path reject) d
    → GivesRecords run step d reject looked → length (rejections_among looked) ≤ reject
    → IsReply run step
    (reply.Loaded (length (rows_among looked)) (length (rejections_among looked))
    (take shown_rejections (rejections_among looked)) epoch)
loaded_alone run step cube path reject d looked epoch deps round h due fit l allowed =
    let s = Load cube path reject in
    changed_alone run step s epoch deps round (said_of epoch looked) h refl due (fits run step s d fit.on fit.fits)
    (refuses run step cube path reject d looked fit.on l ∙ few reject looked allowed) (stands run step s d fit.on)
    (ap (said_of epoch) (sym (loads run step cube path reject d looked fit.on l)))

pub loaded_inside : (run : RunRecord) (step : SessionStep) (cube path : List ℕ) (reject : ℕ) (d : Decl)
    (looked : List (Result Row BadRow)) (writer : Snapshot)
    → IsStep step (Open writer) (Says (Load cube path reject)) []
    → FitsItsCube run step (Load cube path reject) d
    → GivesRecords run step d reject looked → length (rejections_among looked) ≤ reject
    → IsReply run step
    (reply.Loaded (length (rows_among looked)) (length (rejections_among looked))
    (take shown_rejections (rejections_among looked)) writer.epoch)
loaded_inside run step cube path reject d looked writer h fit l allowed =
    let s = Load cube path reject in
    changed_inside run step s writer (said_of writer.epoch looked) h refl (fits run step s d fit.on fit.fits)
    (refuses run step cube path reject d looked fit.on l ∙ few reject looked allowed) (stands run step s d fit.on)
    (ap (said_of writer.epoch) (sym (loads run step cube path reject d looked fit.on l)))

missing_leaves : (mode : Mode) → leaves_refused mode refusal.NoSuchFile ≡ true
missing_leaves Idle = refl
missing_leaves (Open writer) = refl
missing_leaves (Aborted epoch) = refl

pub file_missing : (run : RunRecord) (step : SessionStep) (mode : Mode) (cube path : List ℕ) (reject : ℕ) (d : Decl)
    → IsStep step mode (Says (Load cube path reject)) (lone_refusal step 8)
    → refused_by_mode mode (Load cube path reject) ≡ None
    → FitsItsCube run step (Load cube path reject) d
    → step.file ≡ Missing → IsReply run step (reply.Refused refusal.NoSuchFile)
file_missing run step mode cube path reject d h may fit file =
    let s = Load cube path reject in
    refusal_noted run step mode s refusal.NoSuchFile h (missing_leaves mode)
    (refused_first refusal.NoSuchFile
    (meets_data run step mode s (lone_refusal step 8) (Some refusal.NoSuchFile)
    (change_on_rows s refl) may refl (fits run step s d fit.on fit.fits)
    (ap (refused_file (catalog_of run) cube reject) file)))
    (λ looked. stands run step s d fit.on)

long_leaves : (mode : Mode) (size : ℕ) → leaves_refused mode (refusal.FileTooLong size) ≡ true
long_leaves Idle size = refl
long_leaves (Open writer) size = refl
long_leaves (Aborted epoch) size = refl

pub file_too_long : (run : RunRecord) (step : SessionStep) (mode : Mode) (cube path : List ℕ) (reject : ℕ) (d : Decl)
    (size : ℕ) → IsStep step mode (Says (Load cube path reject)) (lone_refusal step 9)
    → refused_by_mode mode (Load cube path reject) ≡ None
    → FitsItsCube run step (Load cube path reject) d
    → step.file ≡ TooLarge size → IsReply run step (reply.Refused (refusal.FileTooLong size))
file_too_long run step mode cube path reject d size h may fit file =
    let s = Load cube path reject in
    refusal_noted run step mode s (refusal.FileTooLong size) h (long_leaves mode size)
    (refused_first (refusal.FileTooLong size)
    (meets_data run step mode s (lone_refusal step 9) (Some (refusal.FileTooLong size))
    (change_on_rows s refl) may refl (fits run step s d fit.on fit.fits)
    (ap (refused_file (catalog_of run) cube reject) file)))
    (λ looked. stands run step s d fit.on)

pub rejected_alone : (run : RunRecord) (step : SessionStep) (cube path : List ℕ) (reject : ℕ) (d : Decl)
    (looked : List (Result Row BadRow)) (epoch : ℕ) (deps : List ℕ)
    → IsStep step Idle (Says (Load cube path reject)) (own_abort step epoch deps abort.TooManyRejected)
    → FitsItsCube run step (Load cube path reject) d
    → GivesRecords run step d reject looked → reject < length (rejections_among looked)
    → IsReply run step (reply.Refused (refusal.TooManyRejected (length (rejections_among looked)) reject))
rejected_alone run step cube path reject d looked epoch deps h fit l more =
    let s = Load cube path reject in
    let r : Refusal = refusal.TooManyRejected (length (rejections_among looked)) reject in
    ended_alone run step s r epoch deps abort.TooManyRejected h refl refl
    (refused_first r
    (meets_data run step Idle s (own_abort step epoch deps abort.TooManyRejected) (Some r) (change_on_rows s refl) refl
    refl (fits run step s d fit.on fit.fits)
    (refuses run step cube path reject d looked fit.on l ∙ many reject looked more)))
    (λ asked. stands run step s d fit.on)

pub rejected_inside : (run : RunRecord) (step : SessionStep) (cube path : List ℕ) (reject : ℕ) (d : Decl)
    (looked : List (Result Row BadRow)) (writer : Snapshot)
    → IsStep step (Open writer) (Says (Load cube path reject)) (open_abort step writer.epoch abort.TooManyRejected)
    → FitsItsCube run step (Load cube path reject) d
    → GivesRecords run step d reject looked → reject < length (rejections_among looked)
    → IsReply run step (reply.Refused (refusal.TooManyRejected (length (rejections_among looked)) reject))
rejected_inside run step cube path reject d looked writer h fit l more =
    let s = Load cube path reject in
    let r : Refusal = refusal.TooManyRejected (length (rejections_among looked)) reject in
    ended_inside run step s r writer abort.TooManyRejected h refl refl
    (refused_first r
    (meets_data run step (Open writer) s (open_abort step writer.epoch abort.TooManyRejected) (Some r)
    (change_on_rows s refl) refl refl (fits run step s d fit.on fit.fits)
    (refuses run step cube path reject d looked fit.on l ∙ many reject looked more)))
    (λ asked. stands run step s d fit.on)

pub unread_alone : (run : RunRecord) (step : SessionStep) (cube path : List ℕ) (reject : ℕ) (d : Decl)
    → IsStep step Idle (Says (Load cube path reject)) (lone_refusal step 11)
    → FitsItsCube run step (Load cube path reject) d
    → IsReply run step (reply.Refused refusal.ReadFault)
unread_alone run step cube path reject d h fit =
    let s = Load cube path reject in
    let entries : List JournalEntry = lone_refusal step 11 in
    let rows = change_on_rows s refl in
    refusal_noted run step Idle s refusal.ReadFault h refl
    (read_fault refl (record {
      misfit = None;
      is_misfit = fits run step s d fit.on fit.fits;
      is =
          bound_none (with_parts step Idle (Says s) entries) s refl (rows.watch step.state.watch) refl
          (rows.declaration entries);
    }))
    (λ looked. stands run step s d fit.on)

pub unread_inside : (run : RunRecord) (step : SessionStep) (cube path : List ℕ) (reject : ℕ) (d : Decl)
    (writer : Snapshot)
    → IsStep step (Open writer) (Says (Load cube path reject)) (open_abort step writer.epoch abort.ReadFault)
    → FitsItsCube run step (Load cube path reject) d
    → IsReply run step (reply.Refused refusal.ReadFault)
unread_inside run step cube path reject d writer h fit =
    let s = Load cube path reject in
    let entries : List JournalEntry = open_abort step writer.epoch abort.ReadFault in
    let rows = change_on_rows s refl in
    ended_inside run step s refusal.ReadFault writer abort.ReadFault h refl refl
    (read_fault refl (record {
      misfit = None;
      is_misfit = fits run step s d fit.on fit.fits;
      is =
          bound_none (with_parts step (Open writer) (Says s) entries) s refl (rows.watch step.state.watch) refl
          (rows.declaration entries);
    }))
    (λ looked. stands run step s d fit.on)

pub load_too_many_alone : (run : RunRecord) (step : SessionStep) (cube path : List ℕ) (reject : ℕ) (d : Decl)
    (looked : List (Result Row BadRow)) (epoch : ℕ) (deps : List ℕ) (shard count : ℕ)
    → IsStep step Idle (Says (Load cube path reject)) (own_abort step epoch deps (abort.ShardFull shard count))
    → FitsItsCube run step (Load cube path reject) d
    → GivesRecords run step d reject looked → length (rejections_among looked) ≤ reject
    → IsReply run step (reply.Refused (refusal.ShardFull shard count))
load_too_many_alone run step cube path reject d looked epoch deps shard count h fit l allowed =
    let s = Load cube path reject in
    ended_alone run step s (refusal.ShardFull shard count) epoch deps (abort.ShardFull shard count) h refl refl
    (shard_full shard count refl
    (meets_data run step Idle s (own_abort step epoch deps (abort.ShardFull shard count)) None (change_on_rows s refl)
    refl refl (fits run step s d fit.on fit.fits)
    (refuses run step cube path reject d looked fit.on l ∙ few reject looked allowed)))
    (λ asked. stands run step s d fit.on)

pub load_too_many_inside : (run : RunRecord) (step : SessionStep) (cube path : List ℕ) (reject : ℕ) (d : Decl)
    (looked : List (Result Row BadRow)) (writer : Snapshot) (shard count : ℕ)
    → IsStep step (Open writer) (Says (Load cube path reject))
    (open_abort step writer.epoch (abort.ShardFull shard count))
    → FitsItsCube run step (Load cube path reject) d
    → GivesRecords run step d reject looked → length (rejections_among looked) ≤ reject
    → IsReply run step (reply.Refused (refusal.ShardFull shard count))
load_too_many_inside run step cube path reject d looked writer shard count h fit l allowed =
    let s = Load cube path reject in
    ended_inside run step s (refusal.ShardFull shard count) writer (abort.ShardFull shard count) h refl refl
    (shard_full shard count refl
    (meets_data run step (Open writer) s (open_abort step writer.epoch (abort.ShardFull shard count)) None
    (change_on_rows s refl) refl refl (fits run step s d fit.on fit.fits)
    (refuses run step cube path reject d looked fit.on l ∙ few reject looked allowed)))
    (λ asked. stands run step s d fit.on)
