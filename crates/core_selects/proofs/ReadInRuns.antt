-- The lines that were read are those of the answer over what the snapshot sees of the record, in each run of scripts that
-- goes on.
use Rattle.std.proofs.Common.{◌≡◌, ◌∙◌, ℕ, ◌+◌, ◌≤◌, List, [], ◌++◌, length, slice_get, Some, inl, refl, sym, ap, subst, append_assoc}
use mathlib.Core.List.{IsPrefix}
use Rattle.agg_fold.specs.Standing.{StandsFor}
use Rattle.core_selects.proofs.OwnCallCounts.{caller-is, calls-long, same-last}
use Rattle.core_selects.proofs.PassedMoments.{Later, Moment, came-later, held-then, known-then, later-of, moment-run, moment-within}
use Rattle.core_selects.specs.ReadLines.{HasReadLines}
use Rattle.condition_spans.specs.Codes.{lists_at}
use Rattle.copied_names.proofs.Moments.{passes}
use Rattle.core_agreements.proofs.TablesAnswer.{reader-tables, writer-tables}
use Rattle.core_agreements.specs.NamedQueries.{EndAs, IsBoundBetween}
use Rattle.core_agreements.specs.ScriptedRuns.{IsAtStatement, IsScriptedRun}
use Rattle.cube_core.specs.Links.{AreEventsOf}
use Rattle.core_events.specs.Cells.{desk_of}
use Rattle.core_events.specs.Clients.{ClientState, calls_of, client_state}
use Rattle.core_events.specs.Events.{Opening, IsSession, ClientCall, CoreEvent}
use Rattle.core_events.specs.Runs.{IsCoreRun}
use Rattle.core_events.specs.Serial.{operations_of}
use Rattle.core_states.specs.CorePasts.{CorePast, last_number}
use Rattle.core_states.specs.RunsFrom.{IsRunFrom, RunClaim}
use Rattle.cube_core.specs.BoardCells.{IsEntryEvent}
use Rattle.core_program.specs.CoreFits.{CoreEntry}
use Rattle.core_program.specs.Knowing.{HasRunOfClient}
use Rattle.core_records.proofs.CubesOnRecord.{cube-on-record}
use Rattle.core_records.specs.CoreRecords.{RunScripts, names_left, record_of}
use Rattle.core_records.specs.ScriptedCalls.{FollowScripts}
use Rattle.core_serial.proofs.Asking.{AsksBy}
use Rattle.core_serial.proofs.CountedRows.{asks-writer}
use Rattle.core_serial.proofs.OwnCalls.{own-operations}
use Rattle.core_serial.specs.CubeRows.{rows_to_find}
use Rattle.core_serial.specs.OwnOperations.{operations_by_calls}
use Rattle.core_states.proofs.LeftCalls.{longer-front}
use Rattle.core_states.proofs.NotedCounters.{calls-of-both}
use Rattle.core_states.proofs.PlainCalls.{adds-no-operation}
use Rattle.core_states.specs.LeftBehind.{AddsCalls, IsPlainCall}
use Rattle.core_states.specs.StandingInCore.{StandsInCore}
use Rattle.cube_core.specs.declared.cell.CoreCell.{CoreCell}
use Rattle.cube_language.specs.ResolvedNames.{resolved_plan, resolved_query}
use Rattle.cube_language.specs.declared.decl.Decl.{Decl}
use Rattle.cube_language.specs.declared.statement.Statement.{Statement}
use Rattle.cube_run.specs.RunRecords.{RunRecord, script_of}
use Rattle.cube_run.specs.RunTransactions.{run_transactions, transactions_inside}
use Rattle.cube_run.specs.SessionStates.{SessionState}
use Rattle.cube_values.specs.Answer.{answer}
use Rattle.cube_values.specs.First.{first_rows}
use Rattle.cube_values.specs.Visible.{visible_rows}
use Rattle.cube_values.specs.declared.snapshot.Snapshot.{Snapshot}
use Rattle.cube_values.specs.declared.table.Field.{Field}
use Rattle.known_cubes.proofs.OwnCalls.{own-caller}
use Rattle.known_cubes.proofs.ToldCubes.{desk-has}
use Rattle.known_cubes.specs.KnownCubes.{IsToldOfCube}
use Rattle.session_snapshots.specs.KnownHolds.{HoldsReader, HoldsWriter}
use Rattle.linked_shards.specs.CellShards.{CanCallCoreShard, CoreShardStands, CoreShardStep, linked-shards}
use Rattle.shard_events.specs.ShardsInRuns.{FitsShard, ShardAnswerSays}
use Rattle.linked_shards.specs.declared.cell.CoreShard.{CoreShard}
use Rattle.posted_pasts.proofs.PostsAtEnd.{at-statement}
use Rattle.posted_pasts.specs.PostsBehind.{IsRunWithCalls, PostsStandBehind}
use Rattle.scripted_pasts.specs.Served.{IsServed}
use Rattle.session_groups.proofs.FoundFolds.{scan-stands}
use Rattle.cube_core.specs.HoldStates.{IsReading, IsWriting}
use Rattle.settled_queries.proofs.Openers.{owner-opened}
use Rattle.settled_queries.proofs.StayingScans.{reader-found}
use Rattle.settled_queries.specs.Moments.{PassesMoment}
use Rattle.shard_requests.proofs.Onward.{goes-on}

module _ (cells : List (CoreCell CoreShard)) (caller session shards : ℕ) (served : IsServed cells caller session shards)
    (place : ℕ) (d : Decl) (s : Statement) (snapshot : Snapshot) (own now : List CoreEntry) (lines : List (List Field))
    (h : HasReadLines cells caller session place d s snapshot own now lines) (name : List ℕ)
    (told : IsToldOfCube own name place d) (o : Opening) (given : RunScripts) (log : List CoreEntry)
    (events : List CoreEvent) (later : Later cells caller session o now log events)
    (scripted : IsScriptedRun o given events) where
  abbrev run : RunRecord
  run = record_of o given events

  abbrev to-scanned : IsPrefix own h.scanned
  to-scanned = longer-front own h.copied h.scanned h.copying.left.more h.scanning.left.more

  abbrev later-scanned : Later cells caller session o h.scanned log events
  later-scanned = later-of cells caller session o h.scanned now log events h.making.left.more later

  abbrev later-copied : Later cells caller session o h.copied log events
  later-copied = later-of cells caller session o h.copied h.scanned log events h.scanning.left.more later-scanned

  abbrev later-own : Later cells caller session o own log events
  later-own = later-of cells caller session o own h.copied log events h.copying.left.more later-copied

  abbrev passing : (mine logged : List CoreEntry) (all : List CoreEvent) → Later cells caller session o mine logged all
      → (es : List CoreEvent) × Moment cells caller session o mine logged all es
  passing mine logged all run_later =
      passes FitsShard CoreShardStands ShardAnswerSays CanCallCoreShard CoreShardStep linked-shards cells o caller mine
      logged all run_later

  is-session : IsSession o session
  is-session = served.is_session o log later.opens

  there : (es : List CoreEvent) → (m : Moment cells caller session o own log events es)
      → slice_get (desk_of o es).cubes h.query.cube ≡ Some d
  there es m =
      subst (λ (n : ℕ). slice_get (desk_of o es).cubes n ≡ Some d) (sym h.bound.place_is)
      (desk-has FitsShard CoreShardStands ShardAnswerSays o cells caller own m.earlier es name place d m.run_then told).0

  -- It is bound by names that were copied since a moment at which the snapshot was held.
  bound-since : (es : List CoreEvent) → (m : Moment cells caller session o own log events es)
      → IsBoundBetween o es events h.names d s h.query
  bound-since es m = record {
    cube_is = there es m;
    fits = h.bound.fits;
    distinct = h.bound.distinct;
    bound = h.bound.asks;
    since =
        subst (λ (n : ℕ). EndAs d (lists_at (names_left o es) n) (lists_at h.names n)) (sym h.bound.place_is)
        (h.are_copied.since o log events es later-copied m);
    until =
        subst (λ (n : ℕ). EndAs d (lists_at h.names n) (lists_at (names_left o events) n)) (sym h.bound.place_is)
        (h.are_copied.until o log events later-copied);
  }

  -- ---- by a reader

  pub reader-lines : HoldsReader FitsShard CoreShardStands ShardAnswerSays cells caller session own snapshot
      → lines
      ≡ first_rows (resolved_plan s) (answer (resolved_query d s) (visible_rows snapshot (run_transactions run)))
  reader-lines holds =
      let first = passing own log events later-own in
      let es = first.0 in
      let m = first.1 in
      let newer = came-later cells caller session o own log events es m in
      let last = passing h.scanned log events later-scanned in
      let c = came-later cells caller session o h.scanned log events last.0 last.1 in
      let moment : PassesMoment FitsShard CoreShardStands ShardAnswerSays cells o caller session h.scanned events = record {
        log = last.1.earlier;
        moment = moment-run cells caller session served.client o h.scanned log events last.0 last.1;
        later = c.0;
        goes_on = c.1;
      } in
      let stand =
      reader-found cells caller session h.scanned log o events snapshot served.is_session later-scanned moment h.query
      h.groups h.found (h.scanning.same.reader snapshot (h.copying.same.reader snapshot holds))
      in
      let state : IsReading o session snapshot (client_state o session es) =
      known-then cells caller session served.client o own log events es m
      (λ (p : Opening) (k : ClientState). IsReading p session snapshot k) holds
      in
      let held =
      held-then cells caller session served.client o own log events es m snapshot is-session state.ready.holds.held
      in
      let table =
      reader-tables o given [] newer.0 es h.names d s h.query
      (subst (λ (l : List CoreEvent). IsScriptedRun o given l) newer.1 scripted)
      (subst (λ (l : List CoreEvent). IsBoundBetween o es l h.names d s h.query) newer.1 (bound-since es m))
      session snapshot h.groups h.are.table held state.reader
      (subst (λ (l : List CoreEvent). StandsFor h.query (rows_to_find o l h.query snapshot) h.groups) newer.1 stand)
      h.are.makes
      in
      h.are.first
      ∙ ap (first_rows (resolved_plan s))
      (subst (λ (l : List CoreEvent). h.are.table
      ≡ answer (resolved_query d s) (visible_rows snapshot (run_transactions (record_of o given l)))) (sym newer.1) table)

  -- ---- by a writer

  -- A moment after the scan, and before it one at which the session had made the calls from which on names were copied.
  module _ (holds : HoldsWriter FitsShard CoreShardStands ShardAnswerSays cells caller session own snapshot)
      (es after : List CoreEvent) (last : Moment cells caller session o h.scanned log events after)
      (first : Moment cells caller session o own last.earlier after es) where
    abbrev newer : List CoreEvent
    newer = (came-later cells caller session o own last.earlier after es first).0

    abbrev in-between : after ≡ newer ++ es
    in-between = (came-later cells caller session o own last.earlier after es first).1

    abbrev run-first : HasRunOfClient FitsShard CoreShardStands ShardAnswerSays cells o caller session own first.earlier
    run-first = moment-run cells caller session served.client o own last.earlier after es first

    abbrev run-last : HasRunOfClient FitsShard CoreShardStands ShardAnswerSays cells o caller session h.scanned last.earlier
    run-last = moment-run cells caller session served.client o h.scanned log events after last

    writes-first : IsWriting o session snapshot (client_state o session es)
    writes-first =
        known-then cells caller session served.client o own last.earlier after es first
        (λ (p : Opening) (k : ClientState). IsWriting p session snapshot k) holds

    writes-last : IsWriting o session snapshot (client_state o session after)
    writes-last =
        known-then cells caller session served.client o h.scanned log events after last
        (λ (p : Opening) (k : ClientState). IsWriting p session snapshot k)
        (h.scanning.same.writer snapshot (h.copying.same.writer snapshot holds))

    -- Its calls in between are plain.
    abbrev between : AddsCalls FitsShard CoreShardStands ShardAnswerSays IsPlainCall o session own run-last.es
    between =
        (goes-on cells caller session own h.copied h.scanned [] [] h.copying.left h.scanning.left).plain o last.earlier
        after run-last.es last.run_then run-last.events

    long : (mine : List CoreEvent)
        → AreEventsOf (IsEntryEvent FitsShard CoreShardStands ShardAnswerSays o) own mine
        → length (calls_of session mine) ≡ length own
    long mine are =
        let is = caller-is o caller session (served.client.client_is o log later.opens) is-session in
        let first : 1 ≤ caller = subst (λ (n : ℕ). 1 ≤ n) is.1 is-session.first in
        subst (λ (n : ℕ). length (calls_of n mine) ≡ length own) (sym is.1)
        (calls-long FitsShard CoreShardStands ShardAnswerSays o caller first is.0 own mine
        (own-caller caller own log later-own.begins) are)

    -- Before them it had made just those of the first moment.
    same-calls : calls_of session between.before ≡ calls_of session es
    same-calls =
        same-last between.added (calls_of session newer) (calls_of session between.before) (calls_of session es)
        (sym between.calls ∙ sym run-last.calls ∙ ap (calls_of session) in-between ∙ calls-of-both session newer es)
        (long between.before between.events ∙ sym (ap (λ (l : List ClientCall). length l) run-first.calls ∙ long run-first.es run-first.events))

    asks : (at : List CoreEvent) → IsWriting o session snapshot (client_state o session at)
        → AsksBy o session (client_state o session at).holds snapshot
    asks at w = record { number = session; session = is-session; under = inl refl; held = w.ready.holds.held }

    -- So the operations of its transaction are the same at both.
    same-operations : operations_of o h.query.cube (newer ++ es) snapshot.epoch
        ≡ operations_of o h.query.cube es snapshot.epoch
    same-operations =
        let cube = h.query.cube in
        let epoch = snapshot.epoch in
        ap (λ (l : List CoreEvent). operations_of o cube l epoch) (sym in-between)
        ∙ own-operations o after session epoch cube last.run_then.is_run
        (owner-opened o after session epoch (asks-writer o after session snapshot (asks after writes-last) writes-last.writer))
        ∙ ap (λ (calls : List ClientCall). operations_by_calls o session cube calls epoch) (run-last.calls ∙ between.calls)
        ∙ adds-no-operation o session cube epoch between.added (calls_of session between.before) between.each
        ∙ ap (λ (calls : List ClientCall). operations_by_calls o session cube calls epoch) same-calls
        ∙ sym (own-operations o es session epoch cube first.run_then.is_run
        (owner-opened o es session epoch (asks-writer o es session snapshot (asks es writes-first) writes-first.writer)))

    module _ (besides : RunClaim) (past : CorePast) (state : SessionState)
        (st : StandsInCore FitsShard CoreShardStands ShardAnswerSays cells caller session own past)
        (posts : PostsStandBehind FitsShard CoreShardStands ShardAnswerSays cells caller session besides past own state)
        (from : IsRunFrom FitsShard CoreShardStands ShardAnswerSays cells caller session past o given events)
        (also : besides o given events) where
      abbrev behind : List CoreEvent
      behind = (came-later cells caller session o h.scanned log events after last).0

      abbrev whole : events ≡ behind ++ (newer ++ es)
      whole =
          (came-later cells caller session o h.scanned log events after last).1
          ∙ ap (λ (l : List CoreEvent). behind ++ l) in-between

      abbrev moment : Moment cells caller session o own log events es
      moment = moment-within cells caller session o own h.scanned log events es after last first

      with-calls : IsRunWithCalls FitsShard CoreShardStands ShardAnswerSays cells caller session besides past own o given
          events run-first.es
      with-calls = record { from = from; also = also; log = log; later = later-own; calls = run-first.events }

      -- It is at the statement behind its past.
      inside : IsAtStatement o (record_of o given (behind ++ (newer ++ es))) es session (last_number past + 1)
          h.query.cube d snapshot
      inside =
          let joined : events ≡ (behind ++ newer) ++ es = whole ∙ sym (append_assoc behind newer es) in
          subst (λ (l : List CoreEvent). IsAtStatement o (record_of o given l) es session (last_number past + 1)
          h.query.cube d snapshot) (append_assoc behind newer es)
          (at-statement FitsShard CoreShardStands ShardAnswerSays cells besides caller session past own state o given
          (behind ++ newer) es run-first.es st posts
          (subst (λ (l : List CoreEvent). IsRunWithCalls FitsShard CoreShardStands ShardAnswerSays cells caller session
          besides past own o given l run-first.es) joined with-calls)
          run-first.calls h.query.cube d snapshot is-session
          (held-then cells caller session served.client o own last.earlier after es first snapshot is-session
          writes-first.ready.holds.held)
          writes-first.writer
          (cube-on-record o given (behind ++ newer) es h.query.cube d
          (subst (λ (l : List CoreEvent). IsCoreRun o l) joined later.is_run)
          (subst (λ (l : List CoreEvent). FollowScripts o given l) joined scripted.follow) (there es moment)))

      writer-lines : lines
          ≡ first_rows (resolved_plan s)
          (answer (resolved_query d s)
          (visible_rows snapshot
          (transactions_inside run session (script_of run session) (last_number past + 1) snapshot.epoch)))
      writer-lines =
          let table =
          writer-tables o given behind newer es h.names d s h.query
          (subst (λ (l : List CoreEvent). IsScriptedRun o given l) whole scripted)
          (subst (λ (l : List CoreEvent). IsBoundBetween o es l h.names d s h.query) whole (bound-since es moment))
          session (last_number past + 1) snapshot h.groups h.are.table is-session inside.held writes-first.writer
          same-operations inside.posts
          (subst (λ (l : List CoreEvent). StandsFor h.query (rows_to_find o l h.query snapshot) h.groups) in-between
          (scan-stands cells caller session h.scanned last.earlier o h.query snapshot h.groups h.found run-last))
          h.are.makes
          in
          h.are.first
          ∙ ap (first_rows (resolved_plan s))
          (subst (λ (l : List CoreEvent). h.are.table
          ≡ answer (resolved_query d s)
          (visible_rows snapshot
          (transactions_inside (record_of o given l) session (script_of (record_of o given l) session)
          (last_number past + 1) snapshot.epoch))) (sym whole) table)

  -- What a session has behind it, and that its posts stand for that, in the calls by which it came to the scan.
  pub lines-inside : HoldsWriter FitsShard CoreShardStands ShardAnswerSays cells caller session own snapshot
      → (besides : RunClaim) (past : CorePast) (state : SessionState)
      → StandsInCore FitsShard CoreShardStands ShardAnswerSays cells caller session own past
      → PostsStandBehind FitsShard CoreShardStands ShardAnswerSays cells caller session besides past own state
      → IsRunFrom FitsShard CoreShardStands ShardAnswerSays cells caller session past o given events
      → besides o given events
      → lines
      ≡ first_rows (resolved_plan s)
      (answer (resolved_query d s)
      (visible_rows snapshot
      (transactions_inside run session (script_of run session) (last_number past + 1) snapshot.epoch)))
  lines-inside holds besides past state st posts from also =
      let last = passing h.scanned log events later-scanned in
      let first =
      passing own last.1.earlier last.0
      (later-of cells caller session o own h.scanned last.1.earlier last.0 to-scanned last.1.run_then)
      in
      writer-lines holds first.0 last.0 last.1 first.1 besides past state st posts from also
