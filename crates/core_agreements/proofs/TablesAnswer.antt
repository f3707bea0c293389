-- The table of a query is its statement's answer over what a snapshot sees of the record.
use Rattle.std.proofs.Common.{◌≡◌, ◌∙◌, ℕ, true, false, List, ◌++◌, append_assoc, Some, slice_get, sym, ap, subst}
use Rattle.std.proofs.lemmas.Bool.{false≢true}
use Rattle.std.proofs.lemmas.List.Elements.{All-from_recursion}
use Rattle.cube_values.specs.Answer.{answer}
use Rattle.cube_values.specs.Spans.{span_has}
use Rattle.cube_values.specs.Visible.{visible_rows}
use Rattle.cube_values.specs.declared.query.BoundQuery.{BoundQuery}
use Rattle.cube_values.specs.declared.row.CodedRow.{CodedRow}
use Rattle.cube_values.specs.declared.row.StoredRow.{StoredRow}
use Rattle.cube_values.specs.declared.snapshot.Snapshot.{Snapshot}
use Rattle.cube_values.specs.declared.table.Field.{Field}
use Rattle.cube_language.specs.Misfits.{FitsCube}
use Rattle.cube_language.specs.ResolvedNames.{resolved_query}
use Rattle.cube_language.specs.declared.decl.Decl.{Decl}
use Rattle.cube_language.specs.declared.statement.Statement.{Statement}
use Rattle.cube_journal.specs.Counters.{held_by}
use Rattle.cube_run.specs.RunRecords.{catalog_of, script_of}
use Rattle.cube_run.specs.RunTransactions.{run_transactions, transaction_so_far, transactions_inside}
use Rattle.agg_fold.specs.Standing.{IsTable, StandsFor}
use Rattle.agg_fold.specs.declared.groups.Groups.{Groups}
use Rattle.agg_fold.proofs.GroupRows.{stand_moved}
use Rattle.condition_spans.specs.Codes.{lists_at}
use Rattle.query_plan.specs.Bindings.{IsQueryOn}
use Rattle.query_plan.specs.Ties.{AreDistinct, StandForValues}
use Rattle.query_plan.proofs.Ties.{queries_answer}
use Rattle.one_session.specs.Changes.{AllStandForValues, rows_in_cube}
use Rattle.one_session.proofs.Coded.{answer_of_cube}
use Rattle.core_events.specs.Cells.{counters_of_run, desk_of}
use Rattle.core_events.specs.Clients.{calls_of, client_state}
use Rattle.core_events.specs.Events.{Opening, IsSession, CoreEvent}
use Rattle.core_events.specs.Runs.{IsCoreRun, rows_in_span}
use Rattle.core_events.specs.Serial.{operations_of}
use Rattle.core_serial.specs.Queries.{HasAnswered, rows_fetched}
use Rattle.core_rows.proofs.RowsOfRuns.{serial-rows-of}
use Rattle.core_serial.specs.CubeRows.{rows_of_serial_run, rows_to_find}
use Rattle.core_serial.specs.OwnOperations.{operations_by_calls}
use Rattle.core_serial.proofs.CubeSerial.{found-stands}
use Rattle.core_settled.proofs.Settled.{open-rows}
use Rattle.core_records.specs.CoreRecords.{RunScripts, record_of}
use Rattle.core_records.proofs.CubesOnRecord.{cube-on-record, cube-stays, run-before}
use Rattle.core_agreements.specs.NamedQueries.{EndAs, IsBoundBetween}
use Rattle.core_agreements.specs.PostsForOperations.{PostsStandFor, StandForAll}
use Rattle.core_agreements.specs.ScriptedRuns.{IsScriptedRun}
use Rattle.core_agreements.proofs.NamedValues.{rows-keep, rows-stand}
use Rattle.core_agreements.proofs.PostsLeave.{passed-moved}
use Rattle.core_agreements.proofs.SeenRecords.{reader-sees, writer-sees}
use Rattle.core_agreements.proofs.SerialRuns.{each-moved}

-- Where the rows of a cube stand for stored ones, by names that the query is bound by and by those in the end.
tables-answer : (names : List (List (List (List ℕ)))) (final : List (List (List ℕ))) (d : Decl) (asked : Statement)
    (query : BoundQuery) (rows : List CodedRow) (stored : List StoredRow) (groups : Groups) (table : List (List Field))
    → FitsCube d asked → AreDistinct (lists_at names query.cube) → IsQueryOn d names asked query
    → EndAs d (lists_at names query.cube) final → AllStandForValues d (lists_at names query.cube) rows
    → StandForAll d final rows (rows_in_cube d.name stored) → StandsFor query (rows_in_span query.span rows) groups
    → IsTable query (lists_at names query.cube) groups table → table ≡ answer (resolved_query d asked) stored
tables-answer names final d asked query rows stored groups table fits distinct bound ends now stand holds makes =
    let lists = lists_at names query.cube in
    let ordered = stand.ordered in
    let each = each-moved d lists rows ordered stand.moved now in
    let keep = rows-keep d lists final ordered ends each in
    makes (rows_in_span query.span ordered)
    (stand_moved query (rows_in_span query.span rows) (rows_in_span query.span ordered) groups
    (passed-moved (λ (row : CodedRow). span_has query.span row.coords) rows ordered stand.moved) holds)
    ∙ queries_answer d asked names query ordered fits distinct bound
    (All-from_recursion (λ (row : CodedRow). StandForValues d lists row.coords) ordered each)
    ∙ ap (answer (resolved_query d asked)) (keep.are ∙ sym stand.come.are)
    ∙ sym (answer_of_cube (resolved_query d asked) stored)

module _ (o : Opening) (given : RunScripts) (later mid es : List CoreEvent) (names : List (List (List (List ℕ))))
    (d : Decl) (asked : Statement) (query : BoundQuery) (r : IsScriptedRun o given (later ++ (mid ++ es)))
    (b : IsBoundBetween o es (later ++ (mid ++ es)) names d asked query) where
  -- The whole run, as one that goes on from the moment of the snapshot.
  abbrev whole : (later ++ mid) ++ es ≡ later ++ (mid ++ es)
  whole = append_assoc later mid es

  run-mid : IsCoreRun o (mid ++ es)
  run-mid = run-before o later (mid ++ es) r.run

  run-now : IsCoreRun o es
  run-now = run-before o mid es run-mid

  cube-at-end : slice_get (desk_of o (later ++ (mid ++ es))).cubes query.cube ≡ Some d
  cube-at-end = cube-stays o later (mid ++ es) query.cube d (cube-stays o mid es query.cube d b.cube_is)

  on-record : slice_get (catalog_of (record_of o given (later ++ (mid ++ es)))).cubes query.cube ≡ Some d
  on-record =
      cube-on-record o given later (mid ++ es) query.cube d r.run r.follow (cube-stays o mid es query.cube d b.cube_is)

  -- The rows that a snapshot sees when it is open stand for values by the names that were copied since.
  rows-named : (s : Snapshot) → AllStandForValues d (lists_at names query.cube) (rows_of_serial_run o es query.cube s)
  rows-named s =
      let rows = rows_of_serial_run o es query.cube s in
      let stand =
      rows-stand o es query.cube d rows run-now b.cube_is (r.opens.shapes query.cube d cube-at-end)
      (λ k dim has. r.opens.names.suit query.cube k d dim cube-at-end has)
      (serial-rows-of o es query.cube s run-now (r.opens.rows query.cube))
      in
      (rows-keep d _ (lists_at names query.cube) rows b.since stand).each

  -- The rows that a query is to find are those of its span among them.
  rows-found : (number : ℕ) (s : Snapshot) (groups : Groups)
      → held_by (counters_of_run o es).snapshots number ≡ Some s
      → (s.own ≡ true → operations_of o query.cube (mid ++ es) s.epoch ≡ operations_of o query.cube es s.epoch)
      → StandsFor query (rows_to_find o (mid ++ es) query s) groups
      → StandsFor query (rows_in_span query.span (rows_of_serial_run o es query.cube s)) groups
  rows-found number s groups held own stand =
      subst (λ (rows : List CodedRow). StandsFor query (rows_in_span query.span rows) groups)
      (open-rows o mid es query.cube number s run-mid held own) stand

  pub reader-tables : (number : ℕ) (s : Snapshot) (groups : Groups) (table : List (List Field))
      → held_by (counters_of_run o es).snapshots number ≡ Some s → s.own ≡ false
      → StandsFor query (rows_to_find o (mid ++ es) query s) groups
      → IsTable query (lists_at names query.cube) groups table
      → table
      ≡ answer (resolved_query d asked)
      (visible_rows s (run_transactions (record_of o given (later ++ (mid ++ es)))))
  reader-tables number s groups table held reads stand makes =
      let seen =
      coe 0 1 (i. IsScriptedRun o given (whole i)
      → slice_get (catalog_of (record_of o given (whole i))).cubes query.cube ≡ Some d
      → StandForAll d (lists_at (record_of o given (whole i)).names query.cube) (rows_of_serial_run o es query.cube s)
      (rows_in_cube d.name (visible_rows s (run_transactions (record_of o given (whole i))))))
      (λ scripted cube_is. reader-sees o given (later ++ mid) es query.cube number d s scripted held reads cube_is)
      in
      tables-answer names (lists_at (record_of o given (later ++ (mid ++ es))).names query.cube) d asked query
      (rows_of_serial_run o es query.cube s)
      (visible_rows s (run_transactions (record_of o given (later ++ (mid ++ es))))) groups table b.fits b.distinct
      b.bound b.until (rows-named s) (seen r on-record)
      (rows-found number s groups held (λ own. absurd (false≢true (sym reads ∙ own))) stand) makes

  pub writer-tables : (session statement : ℕ) (s : Snapshot) (groups : Groups) (table : List (List Field))
      → IsSession o session → held_by (counters_of_run o es).snapshots session ≡ Some s → s.own ≡ true
      → operations_of o query.cube (mid ++ es) s.epoch ≡ operations_of o query.cube es s.epoch
      → PostsStandFor d (lists_at (record_of o given (later ++ (mid ++ es))).names query.cube)
      (operations_by_calls o session query.cube (calls_of session es) s.epoch)
      (transaction_so_far (record_of o given (later ++ (mid ++ es))) session
      (script_of (record_of o given (later ++ (mid ++ es))) session) statement s.epoch).operations
      → StandsFor query (rows_to_find o (mid ++ es) query s) groups
      → IsTable query (lists_at names query.cube) groups table
      → table
      ≡ answer (resolved_query d asked)
      (visible_rows s (transactions_inside (record_of o given (later ++ (mid ++ es))) session
      (script_of (record_of o given (later ++ (mid ++ es))) session) statement s.epoch))
  writer-tables session statement s groups table is_session held writes same posts stand makes =
      let seen =
      coe 0 1 (i. IsScriptedRun o given (whole i)
      → slice_get (catalog_of (record_of o given (whole i))).cubes query.cube ≡ Some d
      → PostsStandFor d (lists_at (record_of o given (whole i)).names query.cube)
      (operations_by_calls o session query.cube (calls_of session es) s.epoch)
      (transaction_so_far (record_of o given (whole i)) session (script_of (record_of o given (whole i)) session)
      statement s.epoch).operations
      → StandForAll d (lists_at (record_of o given (whole i)).names query.cube) (rows_of_serial_run o es query.cube s)
      (rows_in_cube d.name (visible_rows s (transactions_inside (record_of o given (whole i)) session
      (script_of (record_of o given (whole i)) session) statement s.epoch))))
      (λ scripted cube_is stands.
      writer-sees o given (later ++ mid) es scripted session statement query.cube d s is_session held writes cube_is
      stands)
      in
      tables-answer names (lists_at (record_of o given (later ++ (mid ++ es))).names query.cube) d asked query
      (rows_of_serial_run o es query.cube s)
      (visible_rows s (transactions_inside (record_of o given (later ++ (mid ++ es))) session
      (script_of (record_of o given (later ++ (mid ++ es))) session) statement s.epoch)) groups table b.fits b.distinct
      b.bound b.until (rows-named s) (seen r on-record posts)
      (rows-found session s groups held (λ own. same) stand) makes

  -- What was fetched from all shards stands for what is to be found.
  pub found : (client : ℕ) (s : Snapshot) (groups : Groups)
      → HasAnswered o.shards query s (client_state o client (mid ++ es)).group
      → StandsFor query (rows_fetched (client_state o client (mid ++ es)).group.answers) groups
      → StandsFor query (rows_to_find o (mid ++ es) query s) groups
  found client s groups answered stand = found-stands o (mid ++ es) client query s groups run-mid answered stand
