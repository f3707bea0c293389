-- The step of a statement that changes rows, by the mode of its session.
use Rattle.std.proofs.Common.{◌≡◌, ◌∙◌, ℕ, ◌≤◌, ◌<◌, true, List, [], None, length, map, take, sym, ap, subst}
use Rattle.std.specs.Prelude.{Result}
use Rattle.core_records.specs.CoreRecords.{RunScripts}
use Rattle.core_states.specs.declared.session.CoreSession.{CoreSession}
use Rattle.cube_journal.specs.declared.journal_entry.AbortCause.{AbortCause}
use Rattle.cube_journal.specs.declared.journal_entry.AbortCause.TheVariants as abort
use Rattle.cube_journal.specs.declared.journal_entry.JournalEntry.{JournalEntry}
use Rattle.cube_journal.specs.declared.refusal.Refusal.TheVariants as refusal
use Rattle.cube_journal.specs.declared.reply.Reply.TheVariants as reply
use Rattle.cube_language.specs.ResolvedNames.{resolved_region}
use Rattle.cube_language.specs.declared.bad_row.BadRow.{BadRow}
use Rattle.cube_language.specs.declared.decl.Decl.{Decl}
use Rattle.cube_language.specs.declared.statement.Cond.{Cond}
use Rattle.cube_language.specs.declared.statement.Statement.{Statement}
use Rattle.cube_language.specs.declared.statement.Statement.TheVariants.{Delete, Insert, Load}
use Rattle.cube_run.specs.LoadedRows.{first_without_place, rejections_among, row_of_values, rows_among}
use Rattle.cube_run.specs.Merge.{RoundFollows}
use Rattle.cube_run.specs.RunRecords.{LoadedFile, RunRecord, Says}
use Rattle.cube_run.specs.RunText.{IsReply, shown_rejections}
use Rattle.cube_run.specs.RunTransactions.{rows_of_cube}
use Rattle.cube_run.specs.SessionStates.{Mode, Idle, Open, Aborted}
use Rattle.cube_run.specs.SessionSteps.{SessionStep}
use Rattle.cube_run.specs.StatementEntries.{is_change}
use Rattle.cube_values.specs.declared.operation.Operation.TheVariants.{Drop, Put}
use Rattle.cube_values.specs.declared.row.Row.{Row}
use Rattle.cube_values.specs.declared.snapshot.Snapshot.{Snapshot}
use Rattle.cube_values.specs.declared.value.Value.{Value}
use Rattle.core_changes.specs.ChangeEnds.{Failed, Finished, IsWriterFor, change_entries, round_due_after}
use Rattle.core_changes.specs.ChangesInRuns.{IsStepOfChange}
use Rattle.core_changes.specs.StepsByWriters.{HasFailedBy, IsDoneBy}
use Rattle.posted_pasts.specs.DoneChanges.{DoesOperation}
use Rattle.session_replies.proofs.Doing.{delete_done_alone, delete_done_inside, insert_done_alone, insert_done_inside, load_done_alone, load_done_inside}
use Rattle.session_replies.proofs.Inserting.{deleted_alone, deleted_inside, insert_too_many_alone, insert_too_many_inside, inserted_alone, inserted_inside}
use Rattle.session_replies.proofs.Loading.{load_too_many_alone, load_too_many_inside, loaded_alone, loaded_inside, rejected_alone, rejected_inside, unread_inside}
use Rattle.session_replies.proofs.Reading.{changed_without_memory, changed_without_memory_inside}
use Rattle.session_replies.specs.Modes.{mode_of}
use Rattle.session_replies.specs.RowEntries.{IsRoundAfter, open_abort, own_abort, own_commit}
use Rattle.session_replies.specs.RowSteps.{FitsItsCube, GivesRecords, IsOnCube, final_names}
use Rattle.session_replies.specs.StepParts.{IsStep}

pub done-by : (s : Statement) (file : LoadedFile) (old : CoreSession) (writer : Snapshot) (round : List JournalEntry)
    (given : RunScripts) (run : RunRecord) (step : SessionStep)
    → IsStepOfChange s file old (Finished writer round) given step → IsWriterFor (mode_of old.mode) writer
    → given.round_every ≡ run.round_every → IsDoneBy run step s writer
done-by s file old writer round given run step h is every = record {
  mode = mode_of old.mode;
  of_mode = is;
  round = round;
  parts = h.parts;
  follows =
      coe 0 1 (i. RoundFollows step.session step.number
      (round_due_after (every i) (h.parts.mode_is i) step.state.commits) round) h.round;
}

pub failed-by : (s : Statement) (file : LoadedFile) (old : CoreSession) (writer : Snapshot) (cause : AbortCause)
    (given : RunScripts) (step : SessionStep) → IsStepOfChange s file old (Failed writer cause) given step
    → IsWriterFor (mode_of old.mode) writer → HasFailedBy step s writer cause
failed-by s file old writer cause given step h is = record { mode = mode_of old.mode; of_mode = is; parts = h.parts }

-- ---- a claim that holds by a transaction of the statement's own and by one that is open holds whichever mode it is

abbrev Alone : RunRecord → SessionStep → Statement → Snapshot → Type 0 → Type 0
Alone run step s writer P =
    (round : List JournalEntry) → IsStep step Idle (Says s) (own_commit step writer.epoch writer.deps round)
    → IsRoundAfter run step round → P

abbrev Inside : SessionStep → Statement → Snapshot → Type 0 → Type 0
Inside step s writer P = IsStep step (Open writer) (Says s) [] → P

by-mode : (run : RunRecord) (step : SessionStep) (s : Statement) (writer : Snapshot) (P : Type 0) (mode : Mode)
    (round : List JournalEntry) → IsWriterFor mode writer
    → IsStep step mode (Says s) (change_entries step.session step.number mode (Finished writer round))
    → RoundFollows step.session step.number (round_due_after run.round_every mode step.state.commits) round
    → Alone run step s writer P → Inside step s writer P → P
by-mode run step s writer P Idle round is h follows alone inside = alone round h follows
by-mode run step s writer P (Open held) round is h follows alone inside =
    inside (record {
      mode_is = h.mode_is ∙ ap (λ (w : Snapshot). Open w) (sym is);
      sentence_is = h.sentence_is;
      entries_are = h.entries_are ∙ follows;
    })
by-mode run step s writer P (Aborted epoch) round is h follows alone inside = absurd is

either-way : (run : RunRecord) (step : SessionStep) (s : Statement) (writer : Snapshot) (P : Type 0)
    → IsDoneBy run step s writer → Alone run step s writer P → Inside step s writer P → P
either-way run step s writer P h alone inside =
    by-mode run step s writer P h.mode h.round h.of_mode h.parts h.follows alone inside

abbrev FailsAlone : SessionStep → Statement → Snapshot → AbortCause → Type 0 → Type 0
FailsAlone step s writer cause P = IsStep step Idle (Says s) (own_abort step writer.epoch writer.deps cause) → P

abbrev FailsInside : SessionStep → Statement → Snapshot → AbortCause → Type 0 → Type 0
FailsInside step s writer cause P = IsStep step (Open writer) (Says s) (open_abort step writer.epoch cause) → P

failing-by-mode : (step : SessionStep) (s : Statement) (writer : Snapshot) (cause : AbortCause) (P : Type 0) (mode : Mode)
    → IsWriterFor mode writer
    → IsStep step mode (Says s) (change_entries step.session step.number mode (Failed writer cause))
    → FailsAlone step s writer cause P → FailsInside step s writer cause P → P
failing-by-mode step s writer cause P Idle is h alone inside = alone h
failing-by-mode step s writer cause P (Open held) is h alone inside =
    inside (record {
      mode_is = h.mode_is ∙ ap (λ (w : Snapshot). Open w) (sym is);
      sentence_is = h.sentence_is;
      entries_are = h.entries_are;
    })
failing-by-mode step s writer cause P (Aborted epoch) is h alone inside = absurd is

failing-either-way : (step : SessionStep) (s : Statement) (writer : Snapshot) (cause : AbortCause) (P : Type 0)
    → HasFailedBy step s writer cause → FailsAlone step s writer cause P → FailsInside step s writer cause P → P
failing-either-way step s writer cause P h alone inside =
    failing-by-mode step s writer cause P h.mode h.of_mode h.parts alone inside

-- ---- what was done

pub insert-done : (run : RunRecord) (step : SessionStep) (cube : List ℕ) (rows : List (List Value)) (d : Decl)
    (writer : Snapshot) → IsDoneBy run step (Insert cube rows) writer → IsOnCube run step (Insert cube rows) d
    → DoesOperation run step writer.epoch (Put (rows_of_cube d.name (map (row_of_values d) rows)))
insert-done run step cube rows d writer h on =
    either-way run step (Insert cube rows) writer
    (DoesOperation run step writer.epoch (Put (rows_of_cube d.name (map (row_of_values d) rows)))) h
    (λ round parts follows. insert_done_alone run step cube rows d writer.epoch writer.deps round parts on)
    (λ parts. insert_done_inside run step cube rows d writer parts on)

pub load-done : (run : RunRecord) (step : SessionStep) (cube path : List ℕ) (reject : ℕ) (d : Decl)
    (looked : List (Result Row BadRow)) (writer : Snapshot) → IsDoneBy run step (Load cube path reject) writer
    → IsOnCube run step (Load cube path reject) d → GivesRecords run step d reject looked
    → DoesOperation run step writer.epoch (Put (rows_of_cube d.name (rows_among looked)))
load-done run step cube path reject d looked writer h on gives =
    either-way run step (Load cube path reject) writer
    (DoesOperation run step writer.epoch (Put (rows_of_cube d.name (rows_among looked)))) h
    (λ round parts follows.
    load_done_alone run step cube path reject d looked writer.epoch writer.deps round parts on gives)
    (λ parts. load_done_inside run step cube path reject d looked writer parts on gives)

pub delete-done : (run : RunRecord) (step : SessionStep) (cube : List ℕ) (conds : List Cond) (d : Decl)
    (writer : Snapshot) → IsDoneBy run step (Delete cube conds) writer → IsOnCube run step (Delete cube conds) d
    → DoesOperation run step writer.epoch (Drop (resolved_region d conds))
delete-done run step cube conds d writer h on =
    either-way run step (Delete cube conds) writer
    (DoesOperation run step writer.epoch (Drop (resolved_region d conds))) h
    (λ round parts follows. delete_done_alone run step cube conds d writer.epoch writer.deps round parts on)
    (λ parts. delete_done_inside run step cube conds d writer parts on)

-- ---- how it is answered

pub insert-answered : (run : RunRecord) (step : SessionStep) (cube : List ℕ) (rows : List (List Value)) (d : Decl)
    (writer : Snapshot) → IsDoneBy run step (Insert cube rows) writer → FitsItsCube run step (Insert cube rows) d
    → first_without_place d (final_names run d) rows ≡ None → IsReply run step (reply.Stored (length rows) writer.epoch)
insert-answered run step cube rows d writer h fits places =
    either-way run step (Insert cube rows) writer (IsReply run step (reply.Stored (length rows) writer.epoch)) h
    (λ round parts follows. inserted_alone run step cube rows d writer.epoch writer.deps round parts follows fits places)
    (λ parts. inserted_inside run step cube rows d writer parts fits places)

pub load-answered : (run : RunRecord) (step : SessionStep) (cube path : List ℕ) (reject : ℕ) (d : Decl)
    (looked : List (Result Row BadRow)) (writer : Snapshot) → IsDoneBy run step (Load cube path reject) writer
    → FitsItsCube run step (Load cube path reject) d → GivesRecords run step d reject looked
    → length (rejections_among looked) ≤ reject
    → IsReply run step
    (reply.Loaded (length (rows_among looked)) (length (rejections_among looked))
    (take shown_rejections (rejections_among looked)) writer.epoch)
load-answered run step cube path reject d looked writer h fits gives allowed =
    either-way run step (Load cube path reject) writer
    (IsReply run step
    (reply.Loaded (length (rows_among looked)) (length (rejections_among looked))
    (take shown_rejections (rejections_among looked)) writer.epoch)) h
    (λ round parts follows.
    loaded_alone run step cube path reject d looked writer.epoch writer.deps round parts follows fits gives allowed)
    (λ parts. loaded_inside run step cube path reject d looked writer parts fits gives allowed)

pub delete-answered : (run : RunRecord) (step : SessionStep) (cube : List ℕ) (conds : List Cond) (d : Decl)
    (writer : Snapshot) → IsDoneBy run step (Delete cube conds) writer → FitsItsCube run step (Delete cube conds) d
    → IsReply run step (reply.Dropped writer.epoch)
delete-answered run step cube conds d writer h fits =
    either-way run step (Delete cube conds) writer (IsReply run step (reply.Dropped writer.epoch)) h
    (λ round parts follows. deleted_alone run step cube conds d writer.epoch writer.deps round parts follows fits)
    (λ parts. deleted_inside run step cube conds d writer parts fits)

-- ---- how it is answered where it fails

pub no-memory-answered : (run : RunRecord) (step : SessionStep) (s : Statement) (writer : Snapshot)
    → HasFailedBy step s writer abort.NoMemory → is_change s ≡ true
    → IsReply run step (reply.Refused refusal.NoMemory)
no-memory-answered run step s writer h changes =
    failing-either-way step s writer abort.NoMemory (IsReply run step (reply.Refused refusal.NoMemory)) h
    (λ parts. changed_without_memory run step s writer.epoch writer.deps parts changes)
    (λ parts. changed_without_memory_inside run step s writer parts changes)

pub insert-full : (run : RunRecord) (step : SessionStep) (cube : List ℕ) (rows : List (List Value)) (d : Decl)
    (writer : Snapshot) (shard count : ℕ) → HasFailedBy step (Insert cube rows) writer (abort.ShardFull shard count)
    → FitsItsCube run step (Insert cube rows) d → first_without_place d (final_names run d) rows ≡ None
    → IsReply run step (reply.Refused (refusal.ShardFull shard count))
insert-full run step cube rows d writer shard count h fits places =
    failing-either-way step (Insert cube rows) writer (abort.ShardFull shard count)
    (IsReply run step (reply.Refused (refusal.ShardFull shard count))) h
    (λ parts.
    insert_too_many_alone run step cube rows d writer.epoch writer.deps shard count parts fits places)
    (λ parts. insert_too_many_inside run step cube rows d writer shard count parts fits places)

pub load-full : (run : RunRecord) (step : SessionStep) (cube path : List ℕ) (reject : ℕ) (d : Decl)
    (looked : List (Result Row BadRow)) (writer : Snapshot) (shard count : ℕ)
    → HasFailedBy step (Load cube path reject) writer (abort.ShardFull shard count)
    → FitsItsCube run step (Load cube path reject) d → GivesRecords run step d reject looked
    → length (rejections_among looked) ≤ reject → IsReply run step (reply.Refused (refusal.ShardFull shard count))
load-full run step cube path reject d looked writer shard count h fits gives allowed =
    failing-either-way step (Load cube path reject) writer (abort.ShardFull shard count)
    (IsReply run step (reply.Refused (refusal.ShardFull shard count))) h
    (λ parts.
    load_too_many_alone run step cube path reject d looked writer.epoch writer.deps shard count parts fits gives allowed)
    (λ parts. load_too_many_inside run step cube path reject d looked writer shard count parts fits gives allowed)

pub load-rejected : (run : RunRecord) (step : SessionStep) (cube path : List ℕ) (reject : ℕ) (d : Decl)
    (looked : List (Result Row BadRow)) (writer : Snapshot)
    → HasFailedBy step (Load cube path reject) writer abort.TooManyRejected
    → FitsItsCube run step (Load cube path reject) d → GivesRecords run step d reject looked
    → reject < length (rejections_among looked)
    → IsReply run step (reply.Refused (refusal.TooManyRejected (length (rejections_among looked)) reject))
load-rejected run step cube path reject d looked writer h fits gives more =
    failing-either-way step (Load cube path reject) writer abort.TooManyRejected
    (IsReply run step (reply.Refused (refusal.TooManyRejected (length (rejections_among looked)) reject))) h
    (λ parts. rejected_alone run step cube path reject d looked writer.epoch writer.deps parts fits gives more)
    (λ parts. rejected_inside run step cube path reject d looked writer parts fits gives more)

abbrev is-idle : Mode → Type 0
is-idle Idle = Unit {0}
is-idle mode = ⊥

not-open : (writer : Snapshot) → Idle ≡ Open writer → ⊥
not-open writer same = subst is-idle same tt

pub load-unread : (run : RunRecord) (step : SessionStep) (cube path : List ℕ) (reject : ℕ) (d : Decl)
    (writer : Snapshot) → HasFailedBy step (Load cube path reject) writer abort.ReadFault
    → step.state.mode ≡ Open writer → FitsItsCube run step (Load cube path reject) d
    → IsReply run step (reply.Refused refusal.ReadFault)
load-unread run step cube path reject d writer h open_is fits =
    failing-either-way step (Load cube path reject) writer abort.ReadFault
    (IsReply run step (reply.Refused refusal.ReadFault)) h
    (λ parts. absurd (not-open writer (sym parts.mode_is ∙ open_is)))
    (λ parts. unread_inside run step cube path reject d writer parts fits)
