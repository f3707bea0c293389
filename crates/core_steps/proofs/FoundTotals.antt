-- The totals of what a scan of all shards found.
use Rattle.std.proofs.Common.{ℕ, ◌≤◌, List, arith}
use Rattle.agg_fold.specs.Standing.{HasRoom}
use Rattle.agg_fold.specs.declared.groups.Groups.{Groups}
use Rattle.core_events.specs.Clients.{calls_of, state_from_calls}
use Rattle.core_program.specs.CoreFits.{CoreEntry}
use Rattle.core_serial.specs.Queries.{rows_fetched}
use Rattle.cube_core.specs.declared.cell.CoreCell.{CoreCell}
use Rattle.cube_values.specs.declared.query.BoundQuery.{BoundQuery}
use Rattle.cube_values.specs.declared.snapshot.Snapshot.{Snapshot}
use Rattle.linked_shards.specs.declared.cell.CoreShard.{CoreShard}
use Rattle.session_groups.proofs.Knowing.{run-now}
use Rattle.session_groups.specs.ShardGroups.{HasFoundRows, KnowsOfShards}
use Rattle.core_steps.specs.Histories.{HasCoreHistory}
use Rattle.core_steps.specs.OnCore.{IsOnCore}
use Rattle.core_steps.specs.Totals.{AsksTotals, HasTotals, KnowsTotals}
use Rattle.core_steps.specs.declared.totals.Totals.{Totals}

module _ (shards : ℕ) (cells : List (CoreCell CoreShard)) (caller session : ℕ) (own : List CoreEntry) (query : BoundQuery)
    (snapshot : Snapshot) (groups : Groups)
    (found : KnowsOfShards cells caller session own (HasFoundRows session query snapshot groups)) where
  -- In the run of a history of its calls there are such rows.
  pub has-room : 1 ≤ shards → IsOnCore shards cells caller session → HasCoreHistory cells caller own
      → HasRoom query 0 groups
  has-room some on history =
      let first = run-now cells caller session on.client on.by_number shards some on.mails own history in
      let r = first.1 in
      let f = found first.0 history.log r.run r.es r.is_later r.events in
      let few = f.stands.few in
      (rows_fetched (state_from_calls first.0 session (calls_of session r.es)).group.answers, f.stands, omega (arith, few))

  pub knows-totals : (low high : ℕ) → AsksTotals low high query → (totals : Totals) → HasTotals query groups totals
      → KnowsTotals cells caller session low high own snapshot totals
  knows-totals low high asks totals has = record {
    query = query;
    asks = asks;
    found = λ o log run es later are.
        let f = found o log run es later are in
        record {
          answered = f.answered;
          table = has (rows_fetched (state_from_calls o session (calls_of session es)).group.answers) f.stands;
        };
  }
