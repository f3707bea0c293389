-- What the step of a statement that changes rows has done.
use Rattle.std.proofs.Common.{◌≡◌, ◌∙◌, ℕ, List, Option, Some, None, refl, sym, ap}
use Rattle.core_records.specs.CoreRecords.{RunScripts}
use Rattle.core_states.specs.declared.session.CoreSession.{CoreSession}
use Rattle.cube_journal.specs.declared.journal_entry.AbortCause.{AbortCause}
use Rattle.cube_journal.specs.declared.journal_entry.JournalEntry.{JournalEntry}
use Rattle.cube_language.specs.declared.statement.Statement.{Statement}
use Rattle.cube_run.specs.Merge.{RoundFollows}
use Rattle.cube_run.specs.RunRecords.{LoadedFile, RunRecord, Says, catalog_of}
use Rattle.cube_run.specs.RunTransactions.{epoch_done, operation_asked, operation_at}
use Rattle.cube_run.specs.SessionStates.{Mode, Idle, Open, Aborted}
use Rattle.cube_run.specs.SessionSteps.{SessionStep}
use Rattle.cube_values.specs.declared.operation.Operation.{Operation}
use Rattle.cube_values.specs.declared.snapshot.Snapshot.{Snapshot}
use Rattle.core_changes.specs.ChangeEnds.{Failed, Finished, IsWriterFor, RefusedBefore, change_entries, round_due_after}
use Rattle.core_changes.specs.ChangesInRuns.{IsStepOfChange}
use Rattle.posted_pasts.specs.DoneChanges.{DoesOperation, HasNoOperation}
use Rattle.session_replies.specs.Modes.{mode_of}
use Rattle.session_replies.specs.StepParts.{IsStep}

finished-at : (i j : ℕ) (writer : Snapshot) (round : List JournalEntry) (every commits : ℕ) (mode : Mode)
    → IsWriterFor mode writer → RoundFollows i j (round_due_after every mode commits) round
    → epoch_done mode (change_entries i j mode (Finished writer round)) ≡ Some writer.epoch
finished-at i j writer round every commits Idle is follows = refl
finished-at i j writer round every commits (Open held) is follows =
    ap (epoch_done (Open held)) follows ∙ ap (λ (w : Snapshot). Some w.epoch) (sym is)
finished-at i j writer round every commits (Aborted epoch) is follows = absurd is

failed-never : (i j : ℕ) (writer : Snapshot) (cause : AbortCause) (mode : Mode) → IsWriterFor mode writer
    → epoch_done mode (change_entries i j mode (Failed writer cause)) ≡ None
failed-never i j writer cause Idle is = refl
failed-never i j writer cause (Open held) is = refl
failed-never i j writer cause (Aborted epoch) is = absurd is

refused-never : (i j code : ℕ) (mode : Mode) → epoch_done mode (change_entries i j mode (RefusedBefore code)) ≡ None
refused-never i j code Idle = refl
refused-never i j code (Open held) = refl
refused-never i j code (Aborted epoch) = refl

-- What a step has done, by its mode and its entries.
done-by-parts : (run : RunRecord) (step : SessionStep) (mode : Mode) (s : Statement) (entries : List JournalEntry)
    (epoch : Option ℕ) (operation : Option Operation) → IsStep step mode (Says s) entries
    → epoch_done mode entries ≡ epoch → operation_asked (catalog_of run) step.file (Says s) ≡ operation
    → operation_at step.number (epoch_done step.state.mode step.entries)
    (operation_asked (catalog_of run) step.file step.sentence) ≡ operation_at step.number epoch operation
done-by-parts run step mode s entries epoch operation h at asked =
    (λ i. operation_at step.number (epoch_done (h.mode_is i) (h.entries_are i))
    (operation_asked (catalog_of run) step.file (h.sentence_is i)))
    ∙ (λ i. operation_at step.number (at i) (asked i))

pub does-what-it-asks : (s : Statement) (file : LoadedFile) (old : CoreSession) (writer : Snapshot)
    (round : List JournalEntry) (given : RunScripts) (run : RunRecord) (step : SessionStep) (operation : Operation)
    → IsStepOfChange s file old (Finished writer round) given step → IsWriterFor (mode_of old.mode) writer
    → operation_asked (catalog_of run) file (Says s) ≡ Some operation → DoesOperation run step writer.epoch operation
does-what-it-asks s file old writer round given run step operation h is asked =
    let mode : Mode = mode_of old.mode in
    done-by-parts run step mode s (change_entries step.session step.number mode (Finished writer round))
    (Some writer.epoch) (Some operation) h.parts
    (finished-at step.session step.number writer round given.round_every step.state.commits mode is
    (coe 0 1 (i. RoundFollows step.session step.number
    (round_due_after given.round_every (h.parts.mode_is i) step.state.commits) round) h.round))
    (ap (λ (f : LoadedFile). operation_asked (catalog_of run) f (Says s)) h.file_is ∙ asked)

none-at : (number : ℕ) (operation : Option Operation) → operation_at number None operation ≡ None
none-at number None = refl
none-at number (Some operation) = refl

pub failed-does-nothing : (run : RunRecord) (step : SessionStep) (s : Statement) (mode : Mode) (writer : Snapshot)
    (cause : AbortCause) → IsWriterFor mode writer
    → IsStep step mode (Says s) (change_entries step.session step.number mode (Failed writer cause))
    → HasNoOperation run step
failed-does-nothing run step s mode writer cause is h =
    done-by-parts run step mode s (change_entries step.session step.number mode (Failed writer cause)) None
    (operation_asked (catalog_of run) step.file (Says s)) h
    (failed-never step.session step.number writer cause mode is) refl
    ∙ none-at step.number (operation_asked (catalog_of run) step.file (Says s))

pub refused-does-nothing : (run : RunRecord) (step : SessionStep) (s : Statement) (mode : Mode) (code : ℕ)
    → IsStep step mode (Says s) (change_entries step.session step.number mode (RefusedBefore code))
    → HasNoOperation run step
refused-does-nothing run step s mode code h =
    done-by-parts run step mode s (change_entries step.session step.number mode (RefusedBefore code)) None
    (operation_asked (catalog_of run) step.file (Says s)) h (refused-never step.session step.number code mode) refl
    ∙ none-at step.number (operation_asked (catalog_of run) step.file (Says s))
