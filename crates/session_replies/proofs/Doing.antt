-- What a statement on rows has done to rows.
use Rattle.std.proofs.Common.{◌≡◌, ◌∙◌, ℕ, true, List, [], Option, Some, None, Result, map, refl, ap}
use Rattle.std.proofs.lemmas.Bool.{false≢true}
use Rattle.std.proofs.lemmas.Option.{same_Some}
use Rattle.cube_values.specs.declared.operation.Operation.{Operation}
use Rattle.cube_values.specs.declared.operation.Operation.TheVariants.{Put, Drop}
use Rattle.cube_values.specs.declared.row.Row.{Row}
use Rattle.cube_values.specs.declared.snapshot.Snapshot.{Snapshot}
use Rattle.cube_values.specs.declared.value.Value.{Value}
use Rattle.cube_language.specs.ResolvedNames.{resolved_region}
use Rattle.cube_language.specs.declared.bad_row.BadRow.{BadRow}
use Rattle.cube_language.specs.declared.decl.Decl.{Decl}
use Rattle.cube_language.specs.declared.statement.Cond.{Cond}
use Rattle.cube_language.specs.declared.statement.Statement.{Statement}
use Rattle.cube_language.specs.declared.statement.Statement.TheVariants.{Select, Insert, Load, Delete}
use Rattle.cube_journal.specs.declared.journal_entry.AbortCause.{AbortCause}
use Rattle.cube_journal.specs.declared.journal_entry.JournalEntry.{JournalEntry}
use Rattle.cube_run.specs.LoadedRows.{row_of_values, rows_among}
use Rattle.cube_run.specs.RunRecords.{RunRecord, Says, Sentence, catalog_of}
use Rattle.cube_run.specs.RunTransactions.{DoneOperation, epoch_done, operation_asked, operation_at, operation_done, rows_of_cube}
use Rattle.cube_run.specs.SessionStates.{Mode, Idle, Open, Aborted}
use Rattle.cube_run.specs.SessionSteps.{SessionStep}
use Rattle.cube_run.specs.StatementEntries.{is_select}
use Rattle.session_replies.specs.RowEntries.{lone_refusal, open_abort, own_abort, own_commit}
use Rattle.session_replies.specs.RowSteps.{IsOnCube, GivesRecords}
use Rattle.session_replies.specs.StepParts.{IsStep}
use Rattle.session_replies.proofs.Ends.{same_parts, with_parts}
use Rattle.session_replies.proofs.Loading.{loads}
use Rattle.session_replies.proofs.OnCubes.{declared_so}

-- What a step has done is what one with its parts has.
by_its_parts : (run : RunRecord) (step : SessionStep) (mode : Mode) (sentence : Sentence) (entries : List JournalEntry)
    (done : Option DoneOperation) → IsStep step mode sentence entries
    → operation_done (catalog_of run) (with_parts step mode sentence entries) ≡ done
    → operation_done (catalog_of run) step ≡ done
by_its_parts run step mode sentence entries done h is =
    ap (operation_done (catalog_of run)) (same_parts step mode sentence entries h) ∙ is

put_by : (run : RunRecord) (step : SessionStep) (cube : List ℕ) (rows : List (List Value)) (d : Decl)
    → IsOnCube run step (Insert cube rows) d
    → operation_asked (catalog_of run) step.file (Says (Insert cube rows))
    ≡ Some (Put (rows_of_cube d.name (map (row_of_values d) rows)))
put_by run step cube rows d on =
    let same = same_Some cube d.name on.needed in
    let is = declared_so run step (Insert cube rows) d on in
    (λ i. Some (Put (rows_of_cube (same i) (map (row_of_values (is i)) rows))))

load_by : (run : RunRecord) (step : SessionStep) (cube path : List ℕ) (reject : ℕ) (d : Decl)
    (looked : List (Result Row BadRow)) → IsOnCube run step (Load cube path reject) d
    → GivesRecords run step d reject looked
    → operation_asked (catalog_of run) step.file (Says (Load cube path reject))
    ≡ Some (Put (rows_of_cube d.name (rows_among looked)))
load_by run step cube path reject d looked on l =
    let same = same_Some cube d.name on.needed in
    let are = loads run step cube path reject d looked on l in
    (λ i. Some (Put (rows_of_cube (same i) (rows_among (are i)))))

drop_by : (run : RunRecord) (step : SessionStep) (cube : List ℕ) (conds : List Cond) (d : Decl)
    → IsOnCube run step (Delete cube conds) d
    → operation_asked (catalog_of run) step.file (Says (Delete cube conds)) ≡ Some (Drop (resolved_region d conds))
drop_by run step cube conds d on =
    let is = declared_so run step (Delete cube conds) d on in (λ i. Some (Drop (resolved_region (is i) conds)))

-- A change that is done with a transaction of its own, or in the one that is open.
done_alone : (run : RunRecord) (step : SessionStep) (s : Statement) (epoch : ℕ) (deps : List ℕ)
    (round : List JournalEntry) (operation : Operation)
    → IsStep step Idle (Says s) (own_commit step epoch deps round)
    → operation_asked (catalog_of run) step.file (Says s) ≡ Some operation
    → operation_done (catalog_of run) step
    ≡ Some (record { number = step.number; epoch = epoch; operation = operation })
done_alone run step s epoch deps round operation h asked =
    by_its_parts run step Idle (Says s) (own_commit step epoch deps round)
    (Some (record { number = step.number; epoch = epoch; operation = operation })) h
    (ap (operation_at step.number (Some epoch)) asked)

done_inside : (run : RunRecord) (step : SessionStep) (s : Statement) (writer : Snapshot) (operation : Operation)
    → IsStep step (Open writer) (Says s) []
    → operation_asked (catalog_of run) step.file (Says s) ≡ Some operation
    → operation_done (catalog_of run) step
    ≡ Some (record { number = step.number; epoch = writer.epoch; operation = operation })
done_inside run step s writer operation h asked =
    by_its_parts run step (Open writer) (Says s) []
    (Some (record { number = step.number; epoch = writer.epoch; operation = operation })) h
    (ap (operation_at step.number (Some writer.epoch)) asked)

pub insert_done_alone : (run : RunRecord) (step : SessionStep) (cube : List ℕ) (rows : List (List Value)) (d : Decl)
    (epoch : ℕ) (deps : List ℕ) (round : List JournalEntry)
    → IsStep step Idle (Says (Insert cube rows)) (own_commit step epoch deps round)
    → IsOnCube run step (Insert cube rows) d
    → operation_done (catalog_of run) step
    ≡ Some (record {
      number = step.number;
      epoch = epoch;
      operation = Put (rows_of_cube d.name (map (row_of_values d) rows));
    })
insert_done_alone run step cube rows d epoch deps round h on =
    done_alone run step (Insert cube rows) epoch deps round (Put (rows_of_cube d.name (map (row_of_values d) rows))) h
    (put_by run step cube rows d on)

pub insert_done_inside : (run : RunRecord) (step : SessionStep) (cube : List ℕ) (rows : List (List Value)) (d : Decl)
    (writer : Snapshot) → IsStep step (Open writer) (Says (Insert cube rows)) []
    → IsOnCube run step (Insert cube rows) d
    → operation_done (catalog_of run) step
    ≡ Some (record {
      number = step.number;
      epoch = writer.epoch;
      operation = Put (rows_of_cube d.name (map (row_of_values d) rows));
    })
insert_done_inside run step cube rows d writer h on =
    done_inside run step (Insert cube rows) writer (Put (rows_of_cube d.name (map (row_of_values d) rows))) h
    (put_by run step cube rows d on)

pub load_done_alone : (run : RunRecord) (step : SessionStep) (cube path : List ℕ) (reject : ℕ) (d : Decl)
    (looked : List (Result Row BadRow)) (epoch : ℕ) (deps : List ℕ) (round : List JournalEntry)
    → IsStep step Idle (Says (Load cube path reject)) (own_commit step epoch deps round)
    → IsOnCube run step (Load cube path reject) d → GivesRecords run step d reject looked
    → operation_done (catalog_of run) step
    ≡ Some (record {
      number = step.number;
      epoch = epoch;
      operation = Put (rows_of_cube d.name (rows_among looked));
    })
load_done_alone run step cube path reject d looked epoch deps round h on l =
    done_alone run step (Load cube path reject) epoch deps round (Put (rows_of_cube d.name (rows_among looked))) h
    (load_by run step cube path reject d looked on l)

pub load_done_inside : (run : RunRecord) (step : SessionStep) (cube path : List ℕ) (reject : ℕ) (d : Decl)
    (looked : List (Result Row BadRow)) (writer : Snapshot)
    → IsStep step (Open writer) (Says (Load cube path reject)) []
    → IsOnCube run step (Load cube path reject) d → GivesRecords run step d reject looked
    → operation_done (catalog_of run) step
    ≡ Some (record {
      number = step.number;
      epoch = writer.epoch;
      operation = Put (rows_of_cube d.name (rows_among looked));
    })
load_done_inside run step cube path reject d looked writer h on l =
    done_inside run step (Load cube path reject) writer (Put (rows_of_cube d.name (rows_among looked))) h
    (load_by run step cube path reject d looked on l)

pub delete_done_alone : (run : RunRecord) (step : SessionStep) (cube : List ℕ) (conds : List Cond) (d : Decl)
    (epoch : ℕ) (deps : List ℕ) (round : List JournalEntry)
    → IsStep step Idle (Says (Delete cube conds)) (own_commit step epoch deps round)
    → IsOnCube run step (Delete cube conds) d
    → operation_done (catalog_of run) step
    ≡ Some (record { number = step.number; epoch = epoch; operation = Drop (resolved_region d conds) })
delete_done_alone run step cube conds d epoch deps round h on =
    done_alone run step (Delete cube conds) epoch deps round (Drop (resolved_region d conds)) h
    (drop_by run step cube conds d on)

pub delete_done_inside : (run : RunRecord) (step : SessionStep) (cube : List ℕ) (conds : List Cond) (d : Decl)
    (writer : Snapshot) → IsStep step (Open writer) (Says (Delete cube conds)) []
    → IsOnCube run step (Delete cube conds) d
    → operation_done (catalog_of run) step
    ≡ Some (record { number = step.number; epoch = writer.epoch; operation = Drop (resolved_region d conds) })
delete_done_inside run step cube conds d writer h on =
    done_inside run step (Delete cube conds) writer (Drop (resolved_region d conds)) h
    (drop_by run step cube conds d on)

-- Nothing is done to rows where no epoch is told, or where nothing is asked of them.
at_no_epoch : (number : ℕ) (operation : Option Operation) → operation_at number None operation ≡ None
at_no_epoch number None = refl
at_no_epoch number (Some operation) = refl

of_none : (number : ℕ) (epoch : Option ℕ) → operation_at number epoch None ≡ None
of_none number None = refl
of_none number (Some epoch) = refl

pub refused_does_nothing : (run : RunRecord) (step : SessionStep) (mode : Mode) (sentence : Sentence) (code : ℕ)
    → IsStep step mode sentence (lone_refusal step code) → operation_done (catalog_of run) step ≡ None
refused_does_nothing run step Idle sentence code h =
    by_its_parts run step Idle sentence (lone_refusal step code) None h
    (at_no_epoch step.number (operation_asked (catalog_of run) step.file sentence))
refused_does_nothing run step (Open writer) sentence code h =
    by_its_parts run step (Open writer) sentence (lone_refusal step code) None h
    (at_no_epoch step.number (operation_asked (catalog_of run) step.file sentence))
refused_does_nothing run step (Aborted epoch) sentence code h =
    by_its_parts run step (Aborted epoch) sentence (lone_refusal step code) None h
    (at_no_epoch step.number (operation_asked (catalog_of run) step.file sentence))

pub ended_does_nothing : (run : RunRecord) (step : SessionStep) (sentence : Sentence) (epoch : ℕ) (deps : List ℕ)
    (cause : AbortCause) → IsStep step Idle sentence (own_abort step epoch deps cause)
    → operation_done (catalog_of run) step ≡ None
ended_does_nothing run step sentence epoch deps cause h =
    by_its_parts run step Idle sentence (own_abort step epoch deps cause) None h
    (at_no_epoch step.number (operation_asked (catalog_of run) step.file sentence))

pub ended_inside_does_nothing : (run : RunRecord) (step : SessionStep) (sentence : Sentence) (writer : Snapshot)
    (cause : AbortCause) → IsStep step (Open writer) sentence (open_abort step writer.epoch cause)
    → operation_done (catalog_of run) step ≡ None
ended_inside_does_nothing run step sentence writer cause h =
    by_its_parts run step (Open writer) sentence (open_abort step writer.epoch cause) None h
    (at_no_epoch step.number (operation_asked (catalog_of run) step.file sentence))

select_asks_none : (run : RunRecord) (step : SessionStep) (s : Statement) → is_select s ≡ true
    → operation_asked (catalog_of run) step.file (Says s) ≡ None
select_asks_none run step (Select items cube conds group having order limit) h = refl
select_asks_none run step s h = absurd (false≢true h)

pub select_does_nothing : (run : RunRecord) (step : SessionStep) (s : Statement) → step.sentence ≡ Says s
    → is_select s ≡ true → operation_done (catalog_of run) step ≡ None
select_does_nothing run step s says h =
    let asked = ap (operation_asked (catalog_of run) step.file) says ∙ select_asks_none run step s h in
    ap (operation_at step.number (epoch_done step.state.mode step.entries)) asked
    ∙ of_none step.number (epoch_done step.state.mode step.entries)
