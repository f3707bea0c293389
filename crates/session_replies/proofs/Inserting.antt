-- The replies to INSERT and DELETE.
use Rattle.std.proofs.Common.{◌≡◌, ◌∙◌, ℕ, true, List, [], Option, Some, None, length, refl, ap}
use Rattle.std.specs.Option.{option_map}
use Rattle.std.proofs.lemmas.Option.{same_Some}
use Rattle.cube_values.specs.declared.snapshot.Snapshot.{Snapshot}
use Rattle.cube_values.specs.declared.value.Value.{Value}
use Rattle.cube_language.specs.declared.decl.Decl.{Decl}
use Rattle.cube_language.specs.declared.statement.Cond.{Cond}
use Rattle.cube_language.specs.declared.statement.Statement.TheVariants.{Insert, Delete}
use Rattle.cube_journal.specs.declared.journal_entry.AbortCause.TheVariants as abort
use Rattle.cube_journal.specs.declared.journal_entry.JournalEntry.{JournalEntry}
use Rattle.cube_journal.specs.declared.refusal.Refusal.TheVariants as refusal
use Rattle.cube_journal.specs.declared.reply.Reply.TheVariants as reply
use Rattle.cube_run.specs.LoadedRows.{first_without_place}
use Rattle.cube_run.specs.RunRecords.{RunRecord, Says, catalog_of, names_of_cube}
use Rattle.cube_run.specs.RunText.{IsReply}
use Rattle.cube_run.specs.SessionStates.{Mode, Idle, Open, Aborted}
use Rattle.cube_run.specs.SessionSteps.{SessionStep}
use Rattle.cube_run.specs.StatementEntries.{leaves_refused}
use Rattle.cube_run.specs.StepOutcomes.{data_refusal, refused_by_mode, refused_first, shard_full}
use Rattle.session_replies.specs.RowEntries.{IsRoundAfter, lone_refusal, open_abort, own_abort, own_commit}
use Rattle.session_replies.specs.RowSteps.{FitsItsCube, IsOnCube, final_names}
use Rattle.session_replies.specs.StepParts.{IsStep}
use Rattle.session_replies.proofs.OnCubes.{declared_so, fits, stands}
use Rattle.session_replies.proofs.RowAnswers.{change_on_rows, changed_alone, changed_inside, ended_alone, ended_inside, meets_data, refusal_noted}

-- What the dictionaries refuse an INSERT for.
lacking : (run : RunRecord) (step : SessionStep) (cube : List ℕ) (rows : List (List Value)) (d : Decl)
    (text : Option (List ℕ)) → IsOnCube run step (Insert cube rows) d
    → first_without_place d (final_names run d) rows ≡ text
    → data_refusal (catalog_of run) step.file (Says (Insert cube rows)) ≡ option_map refusal.DictionaryFull text
lacking run step cube rows d text on h =
    let same = same_Some cube d.name on.needed in
    let is = declared_so run step (Insert cube rows) d on in
    (λ i. option_map refusal.DictionaryFull
    (first_without_place (is i) (names_of_cube (catalog_of run) (same i)) rows))
    ∙ ap (option_map refusal.DictionaryFull) h

pub inserted_alone : (run : RunRecord) (step : SessionStep) (cube : List ℕ) (rows : List (List Value)) (d : Decl)
    (epoch : ℕ) (deps : List ℕ) (round : List JournalEntry)
    → IsStep step Idle (Says (Insert cube rows)) (own_commit step epoch deps round)
    → IsRoundAfter run step round
    → FitsItsCube run step (Insert cube rows) d
    → first_without_place d (final_names run d) rows ≡ None → IsReply run step (reply.Stored (length rows) epoch)
inserted_alone run step cube rows d epoch deps round h due fit places =
    changed_alone run step (Insert cube rows) epoch deps round (reply.Stored (length rows) epoch) h refl due
    (fits run step (Insert cube rows) d fit.on fit.fits) (lacking run step cube rows d None fit.on places)
    (stands run step (Insert cube rows) d fit.on) refl

pub inserted_inside : (run : RunRecord) (step : SessionStep) (cube : List ℕ) (rows : List (List Value)) (d : Decl)
    (writer : Snapshot) → IsStep step (Open writer) (Says (Insert cube rows)) []
    → FitsItsCube run step (Insert cube rows) d
    → first_without_place d (final_names run d) rows ≡ None
    → IsReply run step (reply.Stored (length rows) writer.epoch)
inserted_inside run step cube rows d writer h fit places =
    changed_inside run step (Insert cube rows) writer (reply.Stored (length rows) writer.epoch) h refl
    (fits run step (Insert cube rows) d fit.on fit.fits) (lacking run step cube rows d None fit.on places)
    (stands run step (Insert cube rows) d fit.on) refl

full_leaves : (mode : Mode) (text : List ℕ) → leaves_refused mode (refusal.DictionaryFull text) ≡ true
full_leaves Idle text = refl
full_leaves (Open writer) text = refl
full_leaves (Aborted epoch) text = refl

pub without_place : (run : RunRecord) (step : SessionStep) (mode : Mode) (cube : List ℕ) (rows : List (List Value))
    (d : Decl) (text : List ℕ)
    → IsStep step mode (Says (Insert cube rows)) (lone_refusal step 15)
    → refused_by_mode mode (Insert cube rows) ≡ None
    → FitsItsCube run step (Insert cube rows) d
    → first_without_place d (final_names run d) rows ≡ Some text
    → IsReply run step (reply.Refused (refusal.DictionaryFull text))
without_place run step mode cube rows d text h may fit places =
    refusal_noted run step mode (Insert cube rows) (refusal.DictionaryFull text) h (full_leaves mode text)
    (refused_first (refusal.DictionaryFull text)
    (meets_data run step mode (Insert cube rows) (lone_refusal step 15)
    (Some (refusal.DictionaryFull text)) (change_on_rows (Insert cube rows) refl) may refl
    (fits run step (Insert cube rows) d fit.on fit.fits) (lacking run step cube rows d (Some text) fit.on places)))
    (λ looked. stands run step (Insert cube rows) d fit.on)

pub insert_too_many_alone : (run : RunRecord) (step : SessionStep) (cube : List ℕ) (rows : List (List Value)) (d : Decl)
    (epoch : ℕ) (deps : List ℕ) (shard count : ℕ)
    → IsStep step Idle (Says (Insert cube rows)) (own_abort step epoch deps (abort.ShardFull shard count))
    → FitsItsCube run step (Insert cube rows) d
    → first_without_place d (final_names run d) rows ≡ None
    → IsReply run step (reply.Refused (refusal.ShardFull shard count))
insert_too_many_alone run step cube rows d epoch deps shard count h fit places =
    ended_alone run step (Insert cube rows) (refusal.ShardFull shard count) epoch deps (abort.ShardFull shard count) h
    refl refl
    (shard_full shard count refl
    (meets_data run step Idle (Insert cube rows) (own_abort step epoch deps (abort.ShardFull shard count)) None
    (change_on_rows (Insert cube rows) refl) refl refl (fits run step (Insert cube rows) d fit.on fit.fits)
    (lacking run step cube rows d None fit.on places)))
    (λ looked. stands run step (Insert cube rows) d fit.on)

pub insert_too_many_inside : (run : RunRecord) (step : SessionStep) (cube : List ℕ) (rows : List (List Value))
    (d : Decl) (writer : Snapshot) (shard count : ℕ)
    → IsStep step (Open writer) (Says (Insert cube rows)) (open_abort step writer.epoch (abort.ShardFull shard count))
    → FitsItsCube run step (Insert cube rows) d
    → first_without_place d (final_names run d) rows ≡ None
    → IsReply run step (reply.Refused (refusal.ShardFull shard count))
insert_too_many_inside run step cube rows d writer shard count h fit places =
    ended_inside run step (Insert cube rows) (refusal.ShardFull shard count) writer (abort.ShardFull shard count) h
    refl refl
    (shard_full shard count refl
    (meets_data run step (Open writer) (Insert cube rows) (open_abort step writer.epoch (abort.ShardFull shard count))
    None (change_on_rows (Insert cube rows) refl) refl refl (fits run step (Insert cube rows) d fit.on fit.fits)
    (lacking run step cube rows d None fit.on places)))
    (λ looked. stands run step (Insert cube rows) d fit.on)

pub deleted_alone : (run : RunRecord) (step : SessionStep) (cube : List ℕ) (conds : List Cond) (d : Decl)
    (epoch : ℕ) (deps : List ℕ) (round : List JournalEntry)
    → IsStep step Idle (Says (Delete cube conds)) (own_commit step epoch deps round)
    → IsRoundAfter run step round
    → FitsItsCube run step (Delete cube conds) d
    → IsReply run step (reply.Dropped epoch)
deleted_alone run step cube conds d epoch deps round h due fit =
    changed_alone run step (Delete cube conds) epoch deps round (reply.Dropped epoch) h refl due
    (fits run step (Delete cube conds) d fit.on fit.fits) refl (stands run step (Delete cube conds) d fit.on) refl

pub deleted_inside : (run : RunRecord) (step : SessionStep) (cube : List ℕ) (conds : List Cond) (d : Decl)
    (writer : Snapshot) → IsStep step (Open writer) (Says (Delete cube conds)) []
    → FitsItsCube run step (Delete cube conds) d
    → IsReply run step (reply.Dropped writer.epoch)
deleted_inside run step cube conds d writer h fit =
    changed_inside run step (Delete cube conds) writer (reply.Dropped writer.epoch) h refl
    (fits run step (Delete cube conds) d fit.on fit.fits) refl (stands run step (Delete cube conds) d fit.on) refl
