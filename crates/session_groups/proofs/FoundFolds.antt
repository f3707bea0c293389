-- What a scan has found is what serial execution leaves.
use Rattle.std.proofs.Common.{◌≡◌, ℕ, List, map, sym, subst}
use Rattle.agg_fold.specs.Coded.{row_for}
use Rattle.agg_fold.specs.Standing.{IsTable, StandsFor}
use Rattle.agg_fold.specs.declared.groups.Groups.{Groups}
use Rattle.core_program.proofs.ClientRuns.{known-in-run}
use Rattle.core_program.specs.Knowing.{HasRunOfClient}
use Rattle.core_events.proofs.Knowledge.{known-by-calls}
use Rattle.core_events.specs.Clients.{ClientState, client_state}
use Rattle.core_events.specs.Events.{Opening}
use Rattle.core_program.specs.CoreFits.{CoreEntry}
use Rattle.core_serial.specs.Queries.{HasAnswered, rows_fetched}
use Rattle.core_serial.proofs.CubeSerial.{found-stands, found-table}
use Rattle.core_serial.specs.CubeRows.{rows_to_find}
use Rattle.cube_core.specs.declared.cell.CoreCell.{CoreCell}
use Rattle.cube_values.specs.Answer.{table_of}
use Rattle.cube_values.specs.declared.query.BoundQuery.{BoundQuery}
use Rattle.cube_values.specs.declared.snapshot.Snapshot.{Snapshot}
use Rattle.cube_values.specs.declared.table.Field.{Field}
use Rattle.linked_shards.specs.CellShards.{CoreShardStands}
use Rattle.linked_shards.specs.declared.cell.CoreShard.{CoreShard}
use Rattle.session_groups.specs.ShardGroups.{HasFoundRows, KnowsOfShards}
use Rattle.shard_events.specs.ShardsInRuns.{FitsShard, ShardAnswerSays}

module _ (cells : List (CoreCell CoreShard)) (caller session : ℕ) (own log : List CoreEntry) (o : Opening) (query : BoundQuery) (s : Snapshot)
    (groups : Groups) (knows : KnowsOfShards cells caller session own (HasFoundRows session query s groups))
    (r : HasRunOfClient FitsShard CoreShardStands ShardAnswerSays cells o caller session own log) where
  record FoundInRun : Type 0 where
    answered : HasAnswered o.shards query s (client_state o session r.run).group
    stands : StandsFor query (rows_fetched (client_state o session r.run).group.answers) groups

  found-in-run : FoundInRun
  found-in-run =
      let f = known-in-run FitsShard CoreShardStands ShardAnswerSays cells caller session own log o (HasFoundRows session query s groups) knows r in
      let same = sym (known-by-calls o session r.run) in
      record {
        answered = subst (λ (k : ClientState). HasAnswered o.shards query s k.group) same f.answered;
        stands = subst (λ (k : ClientState). StandsFor query (rows_fetched k.group.answers) groups) same f.stands;
      }

  pub scan-stands : StandsFor query (rows_to_find o r.run query s) groups
  scan-stands = let f = found-in-run in found-stands o r.run session query s groups r.is_later.is_run f.answered f.stands

  pub scan-table : (lists : List (List (List ℕ))) (table : List (List Field)) → IsTable query lists groups table
      → table ≡ table_of query.group query.items (map (row_for lists) (rows_to_find o r.run query s))
  scan-table lists table is =
      let f = found-in-run in found-table o r.run session query s groups lists table r.is_later.is_run f.answered f.stands is
