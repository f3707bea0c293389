-- The transactions of a run, session by session, each from the session's own script and part of the journal.
-- Source: AOSI (ICDE 2018), a transaction's epoch and its operations.
use Rattle.std.specs.Prelude.{ℕ, Bool, false, not, ◌==◌, nat_lt, List, [], ◌∷◌, ◌++◌, map, filter, filter_map, Option, Some, None, if◌then◌else◌}
use Rattle.std.specs.List.{list_any, flat_map, enumerate_from}
use Rattle.cube_values.specs.declared.operation.Operation.{Operation}
use Rattle.cube_values.specs.declared.operation.Operation.TheVariants.{Put, Drop}
use Rattle.cube_values.specs.declared.operation.Transaction.{Transaction}
use Rattle.cube_values.specs.declared.row.Row.{Row}
use Rattle.cube_values.specs.declared.row.StoredRow.{StoredRow}
use Rattle.cube_language.specs.declared.statement.Statement.TheVariants.{Insert, Load, Delete}
use Rattle.cube_language.specs.ResolvedNames.{resolved_region}
use Rattle.cube_journal.specs.declared.journal_entry.JournalEntry.{JournalEntry}
use Rattle.cube_journal.specs.declared.journal_entry.JournalEntry.TheVariants as entry
use Rattle.cube_run.specs.LoadedRows.{load_records, rows_among, row_of_values}
use Rattle.cube_run.specs.RunRecords.{RunRecord, Sentence, Says, LoadedFile, Catalog, catalog_of, declaration_of}
use Rattle.cube_run.specs.SessionStates.{Mode, Idle, Open}
use Rattle.cube_run.specs.SessionSteps.{SessionStep, session_part, steps_of}

-- Rows of one cube, with its name.
abbrev pub rows_of_cube : List ℕ → List Row → List StoredRow
rows_of_cube cube rows = map (λ row. record { cube = cube; row = row }) rows

-- What a statement does where it is done: an INSERT puts its rows, a LOAD the rows among its records, and a DELETE
-- drops its region. Every other statement does nothing to rows.
abbrev pub operation_asked : Catalog → LoadedFile → Sentence → Option Operation
operation_asked catalog file (Says (Insert cube rows)) =
    Some (Put (rows_of_cube cube (map (row_of_values (declaration_of catalog cube)) rows)))
operation_asked catalog file (Says (Load cube path reject)) =
    Some (Put (rows_of_cube cube (rows_among (load_records catalog cube reject file))))
operation_asked catalog file (Says (Delete cube conds)) =
    Some (Drop (resolved_region (declaration_of catalog cube) conds))
operation_asked catalog file sentence = None

-- The epoch at which a change of rows was done, by what its session was before and the entries that it left: that of
-- its own transaction, which is committed; or that of the transaction that is open, where it left no entry. None where
-- it was refused.
abbrev pub epoch_done : Mode → List JournalEntry → Option ℕ
epoch_done Idle (entry.Begin session statement epoch deps ∷ entry.Committed other same done ∷ later) = Some epoch
epoch_done (Open writer) [] = Some writer.epoch
epoch_done mode entries = None

-- An operation that was done, with the number of its statement and its epoch.
pub record DoneOperation : Type 0 where
  pub number : ℕ
  pub epoch : ℕ
  pub operation : Operation

abbrev pub operation_at : ℕ → Option ℕ → Option Operation → Option DoneOperation
operation_at number (Some epoch) (Some operation) =
    Some (record { number = number; epoch = epoch; operation = operation })
operation_at number epoch operation = None

-- What a step has done to rows.
abbrev pub operation_done : Catalog → SessionStep → Option DoneOperation
operation_done catalog step =
    operation_at step.number (epoch_done step.state.mode step.entries)
    (operation_asked catalog step.file step.sentence)

-- What the statements of a session have done, in order.
abbrev pub session_operations : RunRecord → ℕ → List Sentence → List DoneOperation
session_operations run session script = filter_map (operation_done (catalog_of run)) (steps_of run session script)

-- The operations of an epoch.
abbrev pub operations_at : ℕ → List DoneOperation → List Operation
operations_at epoch done = map (λ o. o.operation) (filter (λ o. o.epoch == epoch) done)

abbrev pub is_commit_of : ℕ → JournalEntry → Bool
is_commit_of epoch (entry.Committed session statement committed) = committed == epoch
is_commit_of epoch _ = false

-- The transaction that an entry begins, where one of these commits it.
abbrev pub committed_transaction : List JournalEntry → List DoneOperation → JournalEntry → Option Transaction
committed_transaction part done (entry.Begin session statement epoch deps) =
    if list_any (is_commit_of epoch) part
    then Some (record { epoch = epoch; operations = operations_at epoch done })
    else None
committed_transaction part done _ = None

-- The committed transactions of a session.
abbrev pub session_transactions : RunRecord → ℕ → List Sentence → List Transaction
session_transactions run session script =
    let part = session_part session run.journal in
    filter_map (committed_transaction part (session_operations run session script)) part

-- The kept rows are one put at the safe epoch.
abbrev pub kept_transaction : RunRecord → Transaction
kept_transaction run = record { epoch = run.safe; operations = Put run.kept ∷ [] }

-- The transactions of a run: the kept rows, and then what each session committed. Their order does not matter, since a
-- snapshot sees by epochs, and a deletion hides by epochs and places.
abbrev pub run_transactions : RunRecord → List Transaction
run_transactions run =
    kept_transaction run ∷ flat_map (λ p. session_transactions run p.0 p.1) (enumerate_from 1 run.scripts)

-- What the statements of a session before one have done at an epoch.
abbrev pub transaction_so_far : RunRecord → ℕ → List Sentence → ℕ → ℕ → Transaction
transaction_so_far run session script number epoch =
    let before = filter (λ o. nat_lt o.number number) (session_operations run session script) in
    record { epoch = epoch; operations = operations_at epoch before }

-- The transactions for a statement of a session inside an open transaction: at its epoch there is what the earlier
-- statements of the transaction have done, whether it is committed later or not.
abbrev pub transactions_inside : RunRecord → ℕ → List Sentence → ℕ → ℕ → List Transaction
transactions_inside run session script number epoch =
    filter (λ t. not (t.epoch == epoch)) (run_transactions run)
    ++ transaction_so_far run session script number epoch ∷ []
