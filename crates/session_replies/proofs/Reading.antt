-- The replies to SELECT, to what does not fit its cube, and to what has no memory left.
use Rattle.std.proofs.Common.{◌≡◌, ◌∙◌, ℕ, true, List, [], ◌∷◌, Some, None, refl, ap, sym}
use Rattle.std.proofs.lemmas.Bool.{false≢true}
use Rattle.cube_values.specs.Answer.{answer}
use Rattle.cube_values.specs.First.{first_rows}
use Rattle.cube_values.specs.Visible.{visible_rows}
use Rattle.cube_values.specs.declared.snapshot.Snapshot.{Snapshot}
use Rattle.cube_language.specs.Cubes.{first_some}
use Rattle.cube_language.specs.Misfits.{HasMisfit}
use Rattle.cube_language.specs.ResolvedNames.{resolved_plan, resolved_query}
use Rattle.cube_language.specs.declared.decl.Decl.{Decl}
use Rattle.cube_language.specs.declared.misfit.Misfit.{Misfit}
use Rattle.cube_language.specs.declared.misfit.Misfit.TheVariants.{UnknownColumn, WrongKind, NotGrouped, NotAnItem, BadHaving, NotWatchable, CutsBrick, BadRow}
use Rattle.cube_language.specs.declared.statement.Statement.{Statement}
use Rattle.cube_language.specs.declared.statement.Statement.TheVariants.{Select}
use Rattle.cube_journal.specs.Refusals.{code, of_misfit}
use Rattle.cube_journal.specs.declared.journal_entry.AbortCause.TheVariants as abort
use Rattle.cube_journal.specs.declared.journal_entry.JournalEntry.{JournalEntry}
use Rattle.cube_journal.specs.declared.journal_entry.JournalEntry.TheVariants as entry
use Rattle.cube_journal.specs.declared.refusal.Refusal.{Refusal}
use Rattle.cube_journal.specs.declared.refusal.Refusal.TheVariants as refusal
use Rattle.cube_journal.specs.declared.reply.Reply.TheVariants as reply
use Rattle.cube_run.specs.RunRecords.{RunRecord, Says, script_of}
use Rattle.cube_run.specs.RunText.{IsReply, done_reply, reader_of, select_reply}
use Rattle.cube_run.specs.RunTransactions.{run_transactions, transactions_inside}
use Rattle.cube_run.specs.SessionStates.{Mode, Idle, Open, Aborted}
use Rattle.cube_run.specs.SessionSteps.{SessionStep}
use Rattle.cube_run.specs.StatementEntries.{RefusedWith, is_change, is_select, leaves_refused, select_idle_without_memory}
use Rattle.cube_run.specs.StepOutcomes.{no_memory, refused_by_mode, refused_by_watch, refused_declaration, refused_first, told_unknown}
use Rattle.session_replies.specs.RowEntries.{lone_refusal, open_abort, own_abort, own_reading}
use Rattle.session_replies.specs.RowSteps.{FitsItsCube, IsOnCube}
use Rattle.session_replies.specs.StepParts.{IsStep}
use Rattle.session_replies.proofs.Ends.{by_parts, no_entries, with_parts}
use Rattle.session_replies.proofs.OnCubes.{declared_so, fails, fits, stands}
use Rattle.session_replies.proofs.RowAnswers.{ended_alone, ended_inside, read_alone, read_inside, refusal_noted}

select_is : (run : RunRecord) (step : SessionStep) (s : Statement) → is_select s ≡ true
    → select_reply run step s ≡ done_reply run step s
select_is run step (Select items cube conds group having order limit) h = refl
select_is run step s h = absurd (false≢true h)

pub selected_alone : (run : RunRecord) (step : SessionStep) (s : Statement) (d : Decl) (epoch : ℕ)
    → IsStep step Idle (Says s) (own_reading step epoch) → is_select s ≡ true
    → FitsItsCube run step s d
    → IsReply run step
    (reply.Rows epoch
    (first_rows (resolved_plan s)
    (answer (resolved_query d s) (visible_rows (reader_of epoch) (run_transactions run)))))
selected_alone run step s d epoch h select fit =
    read_alone run step s epoch
    (reply.Rows epoch
    (first_rows (resolved_plan s)
    (answer (resolved_query d s) (visible_rows (reader_of epoch) (run_transactions run)))))
    h select (fits run step s d fit.on fit.fits) (stands run step s d fit.on)
    (ap (λ (e : Decl). reply.Rows epoch
    (first_rows (resolved_plan s)
    (answer (resolved_query e s) (visible_rows (reader_of epoch) (run_transactions run)))))
    (sym (declared_so run step s d fit.on))
    ∙ select_is run (with_parts step Idle (Says s) (own_reading step epoch)) s select)

pub selected_inside : (run : RunRecord) (step : SessionStep) (s : Statement) (d : Decl) (writer : Snapshot)
    → IsStep step (Open writer) (Says s) [] → is_select s ≡ true
    → FitsItsCube run step s d
    → IsReply run step
    (reply.Rows writer.epoch
    (first_rows (resolved_plan s)
    (answer (resolved_query d s)
    (visible_rows writer
    (transactions_inside run step.session (script_of run step.session) step.number writer.epoch)))))
selected_inside run step s d writer h select fit =
    let ts = transactions_inside run step.session (script_of run step.session) step.number writer.epoch in
    read_inside run step s writer
    (reply.Rows writer.epoch
    (first_rows (resolved_plan s) (answer (resolved_query d s) (visible_rows writer ts))))
    h select (fits run step s d fit.on fit.fits) (stands run step s d fit.on)
    (ap (λ (e : Decl). reply.Rows writer.epoch
    (first_rows (resolved_plan s) (answer (resolved_query e s) (visible_rows writer ts))))
    (sym (declared_so run step s d fit.on))
    ∙ select_is run (with_parts step (Open writer) (Says s) []) s select)

pub selected_without_memory : (run : RunRecord) (step : SessionStep) (s : Statement) (epoch : ℕ)
    → IsStep step Idle (Says s) (entry.Read step.session step.number epoch
    ∷ entry.ReadEnd step.session step.number ∷ entry.Refused step.session step.number 16 ∷ [])
    → is_select s ≡ true → IsReply run step (reply.Refused refusal.NoMemory)
selected_without_memory run step s epoch h select =
    let entries : List JournalEntry =
    entry.Read step.session step.number epoch ∷ entry.ReadEnd step.session step.number
    ∷ entry.Refused step.session step.number 16 ∷ []
    in
    by_parts run step Idle (Says s) entries (reply.Refused refusal.NoMemory) h (record {
      outcome = RefusedWith refusal.NoMemory;
      ends = record {
        ends = no_memory;
        leaves = select_idle_without_memory epoch select;
        round = no_entries run (with_parts step Idle (Says s) entries) refl;
        cube = λ looked. absurd (false≢true looked);
      };
      is = refl;
    })

pub changed_without_memory : (run : RunRecord) (step : SessionStep) (s : Statement) (epoch : ℕ) (deps : List ℕ)
    → IsStep step Idle (Says s) (own_abort step epoch deps abort.NoMemory) → is_change s ≡ true
    → IsReply run step (reply.Refused refusal.NoMemory)
changed_without_memory run step s epoch deps h change =
    ended_alone run step s refusal.NoMemory epoch deps abort.NoMemory h change refl no_memory
    (λ looked. absurd (false≢true looked))

pub changed_without_memory_inside : (run : RunRecord) (step : SessionStep) (s : Statement) (writer : Snapshot)
    → IsStep step (Open writer) (Says s) (open_abort step writer.epoch abort.NoMemory) → is_change s ≡ true
    → IsReply run step (reply.Refused refusal.NoMemory)
changed_without_memory_inside run step s writer h change =
    ended_inside run step s refusal.NoMemory writer abort.NoMemory h change refl no_memory
    (λ looked. absurd (false≢true looked))

-- What a statement is refused for that does not fit its cube leaves a Refused, and speaks of no other cube.
misfit_leaves : (mode : Mode) (misfit : Misfit) → leaves_refused mode (of_misfit misfit) ≡ true
misfit_leaves Idle (UnknownColumn name) = refl
misfit_leaves Idle (WrongKind name) = refl
misfit_leaves Idle (NotGrouped name) = refl
misfit_leaves Idle (NotAnItem item) = refl
misfit_leaves Idle (BadHaving item) = refl
misfit_leaves Idle (NotWatchable item) = refl
misfit_leaves Idle (CutsBrick name) = refl
misfit_leaves Idle (BadRow row why) = refl
misfit_leaves (Open writer) (UnknownColumn name) = refl
misfit_leaves (Open writer) (WrongKind name) = refl
misfit_leaves (Open writer) (NotGrouped name) = refl
misfit_leaves (Open writer) (NotAnItem item) = refl
misfit_leaves (Open writer) (BadHaving item) = refl
misfit_leaves (Open writer) (NotWatchable item) = refl
misfit_leaves (Open writer) (CutsBrick name) = refl
misfit_leaves (Open writer) (BadRow row why) = refl
misfit_leaves (Aborted epoch) (UnknownColumn name) = refl
misfit_leaves (Aborted epoch) (WrongKind name) = refl
misfit_leaves (Aborted epoch) (NotGrouped name) = refl
misfit_leaves (Aborted epoch) (NotAnItem item) = refl
misfit_leaves (Aborted epoch) (BadHaving item) = refl
misfit_leaves (Aborted epoch) (NotWatchable item) = refl
misfit_leaves (Aborted epoch) (CutsBrick name) = refl
misfit_leaves (Aborted epoch) (BadRow row why) = refl

misfit_told : (step : SessionStep) (s : Statement) (misfit : Misfit)
    → told_unknown (lone_refusal step (code (of_misfit misfit))) s ≡ None
misfit_told step s (UnknownColumn name) = refl
misfit_told step s (WrongKind name) = refl
misfit_told step s (NotGrouped name) = refl
misfit_told step s (NotAnItem item) = refl
misfit_told step s (BadHaving item) = refl
misfit_told step s (NotWatchable item) = refl
misfit_told step s (CutsBrick name) = refl
misfit_told step s (BadRow row why) = refl

pub unfit : (run : RunRecord) (step : SessionStep) (mode : Mode) (s : Statement) (d : Decl) (misfit : Misfit)
    → IsStep step mode (Says s) (lone_refusal step (code (of_misfit misfit)))
    → refused_by_mode mode s ≡ None → refused_by_watch step.state.watch s ≡ None
    → IsOnCube run step s d → HasMisfit d s misfit → IsReply run step (reply.Refused (of_misfit misfit))
unfit run step mode s d misfit h may watch on is =
    let r : Refusal = of_misfit misfit in
    let entries : List JournalEntry = lone_refusal step (code r) in
    let told = misfit_told step s misfit in
    refusal_noted run step mode s r h (misfit_leaves mode misfit)
    (refused_first r (record {
      binding = Some r;
      meets = record {
        misfit = Some misfit;
        is_misfit = fails run step s d misfit on is;
        is = (λ i. first_some (may i ∷ watch i ∷ told i ∷ Some r ∷ refused_declaration entries s ∷ []));
      };
      is = refl;
    }))
    (λ looked. stands run step s d on)
