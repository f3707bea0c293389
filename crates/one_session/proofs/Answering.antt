-- A query inside a session, by coordinates.
use Rattle.std.proofs.Common.{◌≡◌, ◌∙◌, ℕ, ◌+◌, ◌<◌, ◌≤◌, Bool, true, ◌&&◌, List, [], ◌∷◌, ◌++◌, filter, fold, map, sym, ap}
use Rattle.cube_values.specs.Answer.{answer, table_of}
use Rattle.cube_values.specs.Running.{after_operation}
use Rattle.cube_values.specs.Sees.{sees}
use Rattle.cube_values.specs.Visible.{visible_rows}
use Rattle.cube_values.specs.declared.query.BoundQuery.{BoundQuery}
use Rattle.cube_values.specs.declared.row.CodedRow.{CodedRow}
use Rattle.cube_values.specs.declared.snapshot.Snapshot.{Snapshot}
use Rattle.cube_language.specs.ResolvedNames.{resolved_query}
use Rattle.cube_language.specs.declared.decl.Decl.{Decl}
use Rattle.cube_language.specs.declared.statement.Statement.{Statement}
use Rattle.cube_journal.specs.Counters.{journal_state}
use Rattle.cube_journal.specs.Legal.{CountersAllowAll}
use Rattle.cube_journal.specs.declared.journal_entry.JournalEntry.{JournalEntry}
use Rattle.cube_run.specs.RunRecords.{RunRecord, script_of}
use Rattle.cube_run.specs.RunText.{reader_of}
use Rattle.cube_run.specs.RunTransactions.{DoneOperation, run_transactions, transactions_inside}
use Rattle.cube_run.specs.SessionStates.{SessionState}
use Rattle.condition_spans.specs.Codes.{lists_at}
use Rattle.query_plan.specs.Ties.{rows_taken}
use Rattle.one_session.specs.Behind.{HaveDone, IsSettled}
use Rattle.one_session.specs.Changes.{ChangeAt, IsReadBy, AreInEpochOrder, catalog_behind, operation_counts, rows_with_changes}
use Rattle.one_session.specs.Pasts.{Beginning, GoesOn, IsInTurn, IsOwned, SessionPast, last_number}
use Rattle.one_session.proofs.Befores.{le_yes}
use Rattle.one_session.proofs.Coded.{changes_stand}
use Rattle.one_session.proofs.CubesBehind.{cube_stays}
use Rattle.one_session.proofs.Order.{reader_run, writer_run}
use Rattle.one_session.proofs.RowValues.{query_answers}
use Rattle.one_session.proofs.Views.{reader_view, writer_view}

front_allowed : (safe : ℕ) (before front back : List JournalEntry) → CountersAllowAll safe before (front ++ back)
    → CountersAllowAll safe before front
front_allowed safe before [] back a = tt
front_allowed safe before (e ∷ front) back a = (a.0, front_allowed safe (before ++ e ∷ []) front back a.1)

legal_behind : (beginning : Beginning) (past : SessionPast) (run : RunRecord) → GoesOn beginning past run
    → CountersAllowAll beginning.safe [] past.journal
legal_behind beginning past run g =
    front_allowed beginning.safe [] past.journal g.later
    (coe 0 1 (i. CountersAllowAll (g.safe i) [] (g.journal i)) g.legal)

-- The answer over what operations leave.
answered : (beginning : Beginning) (past : SessionPast) (run : RunRecord) (d : Decl) (s : Statement)
    (query : BoundQuery) (kept : List CodedRow) (changes : List ChangeAt) (done : List DoneOperation)
    → GoesOn beginning past run → IsInTurn past → IsOwned past
    → IsReadBy beginning past run d s query kept changes done
    → table_of query.group query.items
    (rows_taken (lists_at past.names query.cube) query (rows_with_changes query.cube kept changes))
    ≡ answer (resolved_query d s) (fold after_operation beginning.kept (map (λ o. o.operation) done))
answered beginning past run d s query kept changes done g turn owned r =
    query_answers beginning past run d s query (rows_with_changes query.cube kept changes)
    (fold after_operation beginning.kept (map (λ o. o.operation) done)) g
    (cube_stays beginning past run query.cube d g turn owned r.cube_is) r.fits r.distinct r.bound r.now
    (changes_stand (catalog_behind beginning past run) query.cube d kept beginning.kept changes done r.apart r.cube_is
    r.changes r.kept)

pub reader_answers : (beginning : Beginning) (past : SessionPast) (run : RunRecord) (done : List DoneOperation)
    (state : SessionState) (high bound epoch : ℕ) (d : Decl) (s : Statement) (query : BoundQuery)
    (kept : List CodedRow) (changes : List ChangeAt) → HaveDone beginning past done state
    → AreInEpochOrder past done high → IsOwned past → GoesOn beginning past run
    → IsSettled (journal_state beginning.safe past.journal) state.mode bound → beginning.safe ≤ epoch → epoch < bound
    → IsReadBy beginning past run d s query kept changes (filter (operation_counts past (reader_of epoch)) done)
    → answer (resolved_query d s) (visible_rows (reader_of epoch) (run_transactions run))
    ≡ table_of query.group query.items
    (rows_taken (lists_at past.names query.cube) query (rows_with_changes query.cube kept changes))
reader_answers beginning past run done state high bound epoch d s query kept changes h order owned g settled low l r =
    ap (answer (resolved_query d s))
    (reader_view beginning past run done state bound epoch h g settled l
    ∙ reader_run beginning past done high epoch (legal_behind beginning past run g) order
    (ap (λ (b : Bool). b && true) (le_yes beginning.safe epoch low)))
    ∙ sym (answered beginning past run d s query kept changes (filter (operation_counts past (reader_of epoch)) done) g h.turn
    owned r)

pub writer_answers : (beginning : Beginning) (past : SessionPast) (run : RunRecord) (done : List DoneOperation)
    (state : SessionState) (high : ℕ) (writer : Snapshot) (d : Decl) (s : Statement) (query : BoundQuery)
    (kept : List CodedRow) (changes : List ChangeAt) → HaveDone beginning past done state
    → AreInEpochOrder past done high → IsOwned past → GoesOn beginning past run
    → IsSettled (journal_state beginning.safe past.journal) state.mode writer.epoch
    → beginning.safe < writer.epoch → sees writer beginning.safe ≡ true → sees writer writer.epoch ≡ true
    → writer.own ≡ true → IsReadBy beginning past run d s query kept changes (filter (operation_counts past writer) done)
    → answer (resolved_query d s)
    (visible_rows writer (transactions_inside run 1 (script_of run 1) (last_number past + 1) writer.epoch))
    ≡ table_of query.group query.items
    (rows_taken (lists_at past.names query.cube) query (rows_with_changes query.cube kept changes))
writer_answers beginning past run done state high writer d s query kept changes h order owned g settled low first own is r =
    ap (answer (resolved_query d s))
    (writer_view beginning past run done state writer h g settled
    ∙ writer_run beginning past done high writer (legal_behind beginning past run g) order low first own is)
    ∙ sym (answered beginning past run d s query kept changes (filter (operation_counts past writer) done) g h.turn owned r)
