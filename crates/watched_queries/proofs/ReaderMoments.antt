-- What was found by readers holds at each later moment.
use Rattle.std.proofs.Common.{◌≡◌, ◌∙◌, ℕ, List, ◌++◌, sym, ap, subst}
use Rattle.std.proofs.lemmas.Bool.{false≢true}
use Rattle.agg_fold.specs.Standing.{StandsFor}
use Rattle.agg_fold.specs.declared.groups.Groups.{Groups}
use Rattle.core_program.proofs.ClientRuns.{known-in-run}
use Rattle.core_program.specs.Knowing.{IsClientOf, IsLaterRun}
use Rattle.core_serial.proofs.FetchedDeltas.{deltas-differ}
use Rattle.core_serial.proofs.HeldReaders.{run-compares}
use Rattle.core_serial.specs.Deltas.{HasCompared, IsDifference, came_by, went_by}
use Rattle.core_events.proofs.Agreement.{agree}
use Rattle.core_events.proofs.Knowledge.{known-by-calls}
use Rattle.core_events.specs.Clients.{ClientState, client_state, reader_up_to}
use Rattle.core_events.specs.Events.{Opening, CoreEvent}
use Rattle.core_events.specs.Runs.{IsCoreRun, rows_in_span}
use Rattle.core_program.specs.CoreFits.{CoreEntry}
use Rattle.core_serial.proofs.Asking.{AsksBy, run-held}
use Rattle.core_serial.specs.Queries.{HasAnswered}
use Rattle.core_settled.proofs.Settled.{open-rows}
use Rattle.cube_core.specs.declared.cell.CoreCell.{CoreCell}
use Rattle.cube_values.specs.declared.query.BoundQuery.{BoundQuery}
use Rattle.cube_values.specs.declared.row.CodedRow.{CodedRow}
use Rattle.linked_shards.specs.CellShards.{CanCallCoreShard, CoreShardStands, CoreShardStep, linked-shards}
use Rattle.linked_shards.specs.declared.cell.CoreShard.{CoreShard}
use Rattle.session_groups.proofs.FoundFolds.{scan-stands}
use Rattle.session_groups.specs.ShardGroups.{HasFoundRows, KnowsOfShards}
use Rattle.session_watches.specs.ComparedShards.{HasFoundChange}
use Rattle.session_watches.specs.DeltaAnswers.{AreGroupsOfShards}
use Rattle.settled_queries.proofs.Moments.{passes}
use Rattle.settled_queries.specs.Moments.{PassesMoment}
use Rattle.shard_events.specs.ShardsInRuns.{FitsShard, ShardAnswerSays}
use Rattle.standing_query.specs.declared.change.Change.{Change}
use Rattle.watched_queries.specs.ReadersInRuns.{ChangeLeadsUpTo, LeadsUpTo, StandUpTo, rows_up_to}

-- What a client asks for by a reader that is held stays.
rows-stay : (o : Opening) (later es : List CoreEvent) (a epoch : ℕ) (query : BoundQuery) → IsCoreRun o (later ++ es)
    → IsCoreRun o es → AsksBy o a (client_state o a es).holds (reader_up_to epoch)
    → rows_up_to o (later ++ es) query epoch ≡ rows_up_to o es query epoch
rows-stay o later es a epoch query run now asks =
    ap (rows_in_span query.span)
    (open-rows o later es query.cube asks.number (reader_up_to epoch) run
    (agree o es now a asks.session asks.number asks.under ∙ asks.held) (λ own. absurd (false≢true own)))

module _ (cells : List (CoreCell CoreShard)) (caller session : ℕ)
    (acts : IsClientOf FitsShard CoreShardStands ShardAnswerSays cells caller session) (own : List CoreEntry) where
  moment-after : (o : Opening) (log : List CoreEntry) (run : List CoreEvent)
      → IsLaterRun FitsShard CoreShardStands ShardAnswerSays cells o caller own log run
      → PassesMoment FitsShard CoreShardStands ShardAnswerSays cells o caller session own run
  moment-after o log run later =
      passes FitsShard CoreShardStands ShardAnswerSays CanCallCoreShard CoreShardStep linked-shards cells caller session own log o run acts
      later

  pub scan-stands-on : (query : BoundQuery) (epoch : ℕ) (groups : Groups)
      → KnowsOfShards cells caller session own (HasFoundRows session query (reader_up_to epoch) groups)
      → StandUpTo cells caller own query epoch groups
  scan-stands-on query epoch groups knows o log run later =
      let m = moment-after o log run later in
      let r = m.moment in
      let s = reader_up_to epoch in
      let f =
      known-in-run FitsShard CoreShardStands ShardAnswerSays cells caller session own m.log o (HasFoundRows session query s groups) knows r
      in
      let answered : HasAnswered o.shards query s (client_state o session r.run).group =
      subst (λ (k : ClientState). HasAnswered o.shards query s k.group) (sym (known-by-calls o session r.run)) f.answered
      in
      let same =
      rows-stay o m.later r.run session epoch query (subst (IsCoreRun o) m.goes_on later.is_run) r.is_later.is_run
      (run-held o r.run session r.is_later.is_run query s answered.asks)
      in
      subst (λ (es : List CoreEvent). StandsFor query (rows_up_to o es query epoch) groups) (sym m.goes_on)
      (subst (λ (rows : List CodedRow). StandsFor query rows groups) (sym same)
      (scan-stands cells caller session own m.log o query s groups knows r))

  -- The same of a moment, carried to a later one.
  lead-on : (query : BoundQuery) (from to : ℕ) (change : Change) (o : Opening) (run later : List CoreEvent)
      → rows_up_to o later query from ≡ rows_up_to o run query from → rows_up_to o later query to ≡ rows_up_to o run query to
      → LeadsUpTo query from to change o run → LeadsUpTo query from to change o later
  lead-on query from to change o run later first second leads = record {
    more = leads.more;
    less = leads.less;
    came = leads.came;
    went = leads.went;
    difference = coe 1 0 (i. IsDifference (first i) leads.more leads.less (second i)) leads.difference;
  }

  pub change-leads-on : (query : BoundQuery) (from to : ℕ) (change : Change)
      → KnowsOfShards cells caller session own (HasFoundChange session query from to change)
      → ChangeLeadsUpTo cells caller own query from to change
  change-leads-on query from to change knows o log run later =
      let m = moment-after o log run later in
      let r = m.moment in
      let f =
      known-in-run FitsShard CoreShardStands ShardAnswerSays cells caller session own m.log o (HasFoundChange session query from to change) knows r
      in
      let known = sym (known-by-calls o session r.run) in
      let compared : HasCompared o.shards query from to (client_state o session r.run).group =
      subst (λ (k : ClientState). HasCompared o.shards query from to k.group) known f.compared
      in
      let asks = run-compares o r.run session r.is_later.is_run query from to compared.compares in
      let is_run = subst (IsCoreRun o) m.goes_on later.is_run in
      let first = rows-stay o m.later r.run session from query is_run r.is_later.is_run asks.first in
      let second = rows-stay o m.later r.run session to query is_run r.is_later.is_run asks.second in
      let then : LeadsUpTo query from to change o r.run =
      record {
        more = came_by (client_state o session r.run).group.answers;
        less = went_by (client_state o session r.run).group.answers;
        came = subst (λ (k : ClientState). AreGroupsOfShards query o.shards (came_by k.group.answers) change.came.groups) known f.came;
        went = subst (λ (k : ClientState). AreGroupsOfShards query o.shards (went_by k.group.answers) change.went.groups) known f.went;
        difference = deltas-differ o r.run session query from to r.is_later.is_run compared;
      }
      in
      subst (LeadsUpTo query from to change o) (sym m.goes_on) (lead-on query from to change o r.run (m.later ++ r.run) first second then)
