-- What a session and the transactions are by what is behind, whatever may follow.
-- Source: AOSI (ICDE 2018), visibility by epoch; that it is settled before the run has ended is this project's own.
use Rattle.std.specs.Prelude.{◌≡◌, ℕ, ◌≤◌, true, not, ◌==◌, List, [], ◌∷◌, ◌++◌, filter, filter_map, Option}
use Rattle.std.specs.List.{AllByRecursion}
use Rattle.cube_values.specs.declared.operation.Operation.TheVariants.{Put}
use Rattle.cube_values.specs.declared.operation.Transaction.{Transaction}
use Rattle.cube_language.specs.declared.decl.Decl.{Decl}
use Rattle.cube_journal.specs.Counters.{JournalState}
use Rattle.cube_journal.specs.declared.journal_entry.JournalEntry.{JournalEntry}
use Rattle.cube_run.specs.RunRecords.{RunRecord, Sentence, catalog_of, cubes_at}
use Rattle.cube_run.specs.RunTransactions.{DoneOperation, committed_transaction, operation_done, operations_at, session_operations}
use Rattle.cube_run.specs.SessionStates.{SessionState, Mode, Open, fresh_session}
use Rattle.cube_run.specs.SessionSteps.{SessionStep, last_state, session_part, steps_of}
use Rattle.one_session.specs.Pasts.{Beginning, SessionPast, GoesOn, IsInTurn, last_number}

-- The run that ends with what is behind.
abbrev pub run_so_far : Beginning → SessionPast → RunRecord
run_so_far beginning past = record {
  safe = beginning.safe;
  kept = beginning.kept;
  kept_names = beginning.kept_names;
  cubes = beginning.cubes;
  scripts = past.sentences ∷ [];
  file = λ session number. past.files number;
  round_every = beginning.round_every;
  names = past.names;
  journal = past.journal;
}

-- The cubes that are there.
abbrev pub cubes_behind : Beginning → SessionPast → List Decl
cubes_behind beginning past = cubes_at (run_so_far beginning past) past.journal

-- The steps of the statements behind the session.
abbrev pub steps_behind : Beginning → SessionPast → List SessionStep
steps_behind beginning past = steps_of (run_so_far beginning past) 1 past.sentences

-- The step of the statement that came last, by what the session was before and the entries that were added.
abbrev pub last_step : SessionPast → SessionState → Sentence → List JournalEntry → SessionStep
last_step past state sentence added = record {
  session = 1;
  number = last_number past;
  sentence = sentence;
  file = past.files (last_number past);
  state = state;
  entries = session_part 1 added;
}

-- In each run that goes on from there, a step has done just this to rows.
abbrev pub HasDone : Beginning → SessionPast → SessionStep → Option DoneOperation → Type 0
HasDone beginning past step done =
    (run : RunRecord) → GoesOn beginning past run → operation_done (catalog_of run) step ≡ done

-- In each run that goes on from there, the statements behind have done just these operations, and left the session so.
pub record HaveDone (beginning : Beginning) (past : SessionPast) (done : List DoneOperation) (state : SessionState)
    : Type 0 where
  pub turn : IsInTurn past
  pub operations : (run : RunRecord) → GoesOn beginning past run → session_operations run 1 past.sentences ≡ done
  pub becomes : (run : RunRecord) → GoesOn beginning past run
      → last_state fresh_session (steps_of run 1 past.sentences) ≡ state

-- The kept rows, and what is committed of these operations of the statements behind.
abbrev pub transactions_behind : Beginning → SessionPast → List DoneOperation → List Transaction
transactions_behind beginning past done =
    record { epoch = beginning.safe; operations = Put beginning.kept ∷ [] }
    ∷ filter_map (committed_transaction (session_part 1 past.journal) done) (session_part 1 past.journal)

-- The same for a statement inside the transaction that is open, with that one's operations so far.
abbrev pub transactions_at : Beginning → SessionPast → List DoneOperation → ℕ → List Transaction
transactions_at beginning past done epoch =
    filter (λ t. not (t.epoch == epoch)) (transactions_behind beginning past done)
    ++ record { epoch = epoch; operations = operations_at epoch done } ∷ []

-- A transaction that is open is not below an epoch.
abbrev pub IsOpenFrom : ℕ → Mode → Type 0
IsOpenFrom bound (Open writer) = bound ≤ writer.epoch
IsOpenFrom bound mode = Unit {0}

-- What comes of the epochs below a bound is settled: neither EC nor an open writer is below it.
pub record IsSettled (s : JournalState) (mode : Mode) (bound : ℕ) : Type 0 where
  pub next : bound ≤ s.ec
  pub writers : AllByRecursion (λ o. o.snapshot.own ≡ true → bound ≤ o.snapshot.epoch) s.snapshots
  pub mode_is : IsOpenFrom bound mode
