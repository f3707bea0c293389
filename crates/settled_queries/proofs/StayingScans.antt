-- What a scan has found stays what serial execution leaves.
use Rattle.std.proofs.Common.{ℕ, List, ◌++◌, Some, inl, refl, sym, subst}
use Rattle.agg_fold.specs.Standing.{StandsFor}
use Rattle.agg_fold.specs.declared.groups.Groups.{Groups}
use Rattle.cube_values.specs.declared.query.BoundQuery.{BoundQuery}
use Rattle.cube_values.specs.declared.row.CodedRow.{CodedRow}
use Rattle.cube_values.specs.declared.snapshot.Snapshot.{Snapshot}
use Rattle.core_program.proofs.ClientRuns.{known-in-run}
use Rattle.core_program.specs.Knowing.{IsLaterRun, IsSessionOf}
use Rattle.core_events.proofs.Knowledge.{known-by-calls}
use Rattle.core_events.specs.Clients.{ClientState, calls_of, client_state, state_from_calls}
use Rattle.core_events.specs.Events.{Opening, ClientCall, CoreEvent}
use Rattle.core_events.specs.Runs.{IsCoreRun, rows_in_span}
use Rattle.core_program.specs.CoreFits.{CoreEntry}
use Rattle.core_serial.specs.CubeRows.{rows_to_find}
use Rattle.core_serial.specs.HeldSnapshots.{HoldsAtRest}
use Rattle.core_serial.specs.OwnOperations.{operations_by_calls}
use Rattle.cube_core.specs.declared.cell.CoreCell.{CoreCell}
use Rattle.session_snapshots.specs.KnownHolds.{HoldsReader, HoldsWriter}
use Rattle.linked_shards.specs.CellShards.{CoreShardStands}
use Rattle.linked_shards.specs.declared.cell.CoreShard.{CoreShard}
use Rattle.session_groups.proofs.FoundFolds.{scan-stands}
use Rattle.session_groups.specs.ShardGroups.{HasFoundRows, KnowsOfShards}
use Rattle.cube_core.specs.HoldStates.{IsReading, IsReadyWith, IsWriting}
use Rattle.settled_queries.proofs.SettledRows.{reader-settled, writer-settled}
use Rattle.settled_queries.specs.FoundSoFar.{HasFoundSoFar}
use Rattle.settled_queries.specs.Moments.{PassesMoment}
use Rattle.settled_queries.specs.OwnSoFar.{rows_to_find_with_own}
use Rattle.shard_events.specs.ShardsInRuns.{FitsShard, ShardAnswerSays}

abbrev Passes : List (CoreCell CoreShard) → Opening → ℕ → ℕ → List CoreEntry → List CoreEvent → Type 0
Passes cells o caller session own run = PassesMoment FitsShard CoreShardStands ShardAnswerSays cells o caller session own run

module _ (cells : List (CoreCell CoreShard)) (caller session : ℕ) (own log : List CoreEntry) (o : Opening) (run : List CoreEvent)
    (s : Snapshot) (acts : IsSessionOf FitsShard CoreShardStands ShardAnswerSays cells session)
    (later : IsLaterRun FitsShard CoreShardStands ShardAnswerSays cells o caller own log run)
    (p : Passes cells o caller session own run) where
  at-rest : IsReadyWith o session (Some s) (client_state o session p.moment.run)
      → HoldsAtRest o session (client_state o session p.moment.run) s
  at-rest ready = record {
    session = acts o p.log p.moment.is_later.opens;
    number = session;
    under = inl refl;
    held = ready.holds.held;
    ready = ready.ready;
  }

  whole-run : IsCoreRun o (p.later ++ p.moment.run)
  whole-run = subst (λ (l : List CoreEvent). IsCoreRun o l) p.goes_on later.is_run

  module _ (query : BoundQuery) (groups : Groups)
      (knows : KnowsOfShards cells caller session own (HasFoundRows session query s groups)) where
    found : StandsFor query (rows_to_find o p.moment.run query s) groups
    found = scan-stands cells caller session own p.log o query s groups knows p.moment

    pub reader-found : HoldsReader FitsShard CoreShardStands ShardAnswerSays cells caller session own s
        → StandsFor query (rows_to_find o run query s) groups
    reader-found holds =
        let state : IsReading o session s (client_state o session p.moment.run) =
        subst (λ (k : ClientState). IsReading o session s k) (sym (known-by-calls o session p.moment.run))
        (known-in-run FitsShard CoreShardStands ShardAnswerSays cells caller session own p.log o
        (λ (opening : Opening) (calls : List ClientCall). IsReading opening session s (state_from_calls opening session calls))
        holds p.moment)
        in
        let same =
        reader-settled o p.later p.moment.run session query.cube s whole-run (at-rest state.ready) state.reader
        in
        subst (λ (es : List CoreEvent). StandsFor query (rows_to_find o es query s) groups) (sym p.goes_on)
        (subst (λ (rows : List CodedRow). StandsFor query (rows_in_span query.span rows) groups) (sym same) found)

    pub writer-found : HoldsWriter FitsShard CoreShardStands ShardAnswerSays cells caller session own s
        → HasFoundSoFar o session own run query s groups
    writer-found holds =
        let state : IsWriting o session s (client_state o session p.moment.run) =
        subst (λ (k : ClientState). IsWriting o session s k) (sym (known-by-calls o session p.moment.run))
        (known-in-run FitsShard CoreShardStands ShardAnswerSays cells caller session own p.log o
        (λ (opening : Opening) (calls : List ClientCall). IsWriting opening session s (state_from_calls opening session calls))
        holds p.moment)
        in
        let same =
        writer-settled o p.later p.moment.run session query.cube s whole-run (at-rest state.ready) state.writer
        in
        let there : StandsFor query (rows_to_find_with_own o (p.later ++ p.moment.run) query s
        (operations_by_calls o session query.cube (calls_of session p.moment.run) s.epoch)) groups =
        subst (λ (rows : List CodedRow). StandsFor query (rows_in_span query.span rows) groups) (sym same) found
        in
        record {
          es = p.moment.es;
          events = p.moment.events;
          stands =
              coe 0 1 (i. StandsFor query (rows_to_find_with_own o (sym p.goes_on i) query s
              (operations_by_calls o session query.cube (p.moment.calls i) s.epoch)) groups) there;
        }
