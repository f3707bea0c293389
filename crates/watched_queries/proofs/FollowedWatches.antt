-- A watch shows the rows up to its reader's epoch: from its first answer on, and when it follows a change.
use Rattle.std.proofs.Common.{◌≡◌, ℕ, ◌*◌, ◌^◌, ◌≤◌, List, ◌++◌, length, All, refl, sym, subst, arith}
use Rattle.std.proofs.lemmas.List.Sorted.{IsPermutation-sym}
use Rattle.cube_values.specs.declared.query.BoundQuery.{BoundQuery}
use Rattle.cube_values.specs.declared.row.CodedRow.{CodedRow}
use Rattle.agg_fold.proofs.GroupRows.{stand_moved}
use Rattle.agg_fold.specs.Standing.{Adds, HasRoom, HasRowsOf, IsCopy, Removes, StandsFor}
use Rattle.agg_fold.specs.Tallies.{IsAdditive}
use Rattle.agg_fold.specs.declared.groups.Groups.{Groups}
use Rattle.board_callers.specs.Callers.{HasHistoryOf}
use Rattle.core_program.proofs.ClientRuns.{client-run}
use Rattle.core_program.proofs.KnownCalls.{earlier-run}
use Rattle.core_program.specs.Knowing.{IsClientOf, IsLaterRun}
use Rattle.core_events.specs.Events.{Opening, CoreEvent}
use Rattle.core_program.specs.CoreFits.{CoreEntry, FitsOwnCalls}
use Rattle.cube_core.specs.CoreSteps.{CoreStep}
use Rattle.cube_core.specs.declared.cell.CoreCell.{CoreCell}
use Rattle.job_groups.specs.AskedEach.{HasMore}
use Rattle.linked_shards.specs.CellShards.{CanCallCoreShard, CoreShardStands, CoreShardStep, linked-shards}
use Rattle.linked_shards.specs.declared.cell.CoreShard.{CoreShard}
use Rattle.shard_events.specs.ShardsInRuns.{FitsShard, ShardAnswerSays}
use Rattle.standing_query.proofs.Changes.{made_with}
use Rattle.standing_query.specs.Watches.{IsChanged}
use Rattle.standing_query.specs.declared.change.Change.{Change}
use Rattle.watch_holds.specs.HolderStates.{IsHolderOf}
use Rattle.watched_queries.specs.ReadersInRuns.{ChangeLeadsUpTo, HoldsInRuns, StandUpTo, rows_up_to}
use Rattle.watched_queries.specs.WatchSteps.{BeginsSessionWatch, CanFollow, FollowsSessionWatch}
use Rattle.watched_queries.specs.WatchesInRuns.{IsPlainFold, IsWatchOf}
use Rattle.watched_queries.specs.declared.watch.SessionWatch.{SessionWatch}

-- Groups that follow a change.

module _ (query : BoundQuery) (kept : Groups) (change : Change) (can : CanFollow query kept change) where
  module _ (copy : Groups) (copied : IsCopy kept copy) (merged : Groups) (adds : Adds query change.came.groups copy merged) where
    pub has-gone : HasRowsOf query change.went.groups merged
    has-gone = record {
      rows = can.rows ++ can.more;
      more = can.less;
      rest = can.rest ++ can.more;
      made = made_with can.rows can.more can.less can.rest can.had;
      whole = adds can.more can.comes can.rows (copied query can.rows can.shown);
      part = can.goes;
    }

    module _ (next : Groups) (removes : Removes query change.went.groups merged next) where
      pub groups-follow : (rows more less now : List CodedRow) → StandsFor query rows kept → StandsFor query more change.came.groups
          → StandsFor query less change.went.groups → IsChanged rows more less now → StandsFor query now next
      groups-follow rows more less now shown comes goes changed =
          subst (λ (rs : List CodedRow). StandsFor query rs next) (sym changed.has)
          (removes (rows ++ more) less (changed.rest ++ more) (made_with rows more less changed.rest changed.had) goes
          (adds more comes rows (copied query rows shown)))

      pub groups-room : HasRoom query 0 next
      groups-room =
          let now = groups-follow can.rows can.more can.less (can.rest ++ can.more) can.shown can.comes can.goes
          (record { rest = can.rest; had = can.had; has = refl })
          in
          let few = now.few in
          (can.rest ++ can.more, now, omega (arith, few))

-- In runs.

module _ (cells : List (CoreCell CoreShard)) (caller : ℕ) where
  pub earlier-moment : (own now : List CoreEntry) (P : Opening → List CoreEvent → Type 0) → HasMore own now
      → HoldsInRuns cells caller own P → HoldsInRuns cells caller now P
  earlier-moment own now P more holds o log run later =
      holds o log run (earlier-run FitsShard CoreShardStands ShardAnswerSays cells o caller own more.more log run
      (subst (λ (l : List CoreEntry). IsLaterRun FitsShard CoreShardStands ShardAnswerSays cells o caller l log run) more.whole later))

  pub groups-stay : (own now : List CoreEntry) (query : BoundQuery) (epoch : ℕ) (groups : Groups) → HasMore own now
      → StandUpTo cells caller own query epoch groups → StandUpTo cells caller now query epoch groups
  groups-stay own now query epoch groups =
      earlier-moment own now (λ o run. StandsFor query (rows_up_to o run query epoch) groups)

  pub watch-stays : (session : ℕ) (own now : List CoreEntry) (w : SessionWatch) → HasMore own now
      → IsWatchOf cells caller own session w → IsWatchOf cells caller now session w
  watch-stays session own now w more is =
      record { sound = is.sound; shows = groups-stay own now w.query w.epoch w.kept.groups more is.shows }

  pub watch-folds : (session : ℕ) (own : List CoreEntry) (w : SessionWatch) → IsWatchOf cells caller own session w
      → IsPlainFold cells caller own w
  watch-folds session own w is lists table is_table o log run later =
      is_table (rows_up_to o run w.query w.epoch) (is.shows o log run later)

  pub first-shows : (session holder epoch : ℕ) (own : List CoreEntry) (query : BoundQuery) (first : Groups) (w : SessionWatch)
      → IsHolderOf session holder → All IsAdditive query.items → StandUpTo cells caller own query epoch first
      → BeginsSessionWatch query holder epoch first w → IsWatchOf cells caller own session w
  first-shows session holder epoch own query first w of_session additive stands begins = record {
    sound = record {
      holder = subst (IsHolderOf session) (sym begins.holder_is) of_session;
      additive = subst (λ (q : BoundQuery). All IsAdditive q.items) (sym begins.query_is) additive;
      room = subst (λ (q : BoundQuery). HasRoom q 0 w.kept.groups) (sym begins.query_is) begins.room;
    };
    shows = λ o log run later.
        coe 1 0 (i. StandsFor (begins.query_is i) (rows_up_to o run (begins.query_is i) (begins.epoch_is i)) w.kept.groups)
        (begins.alike (rows_up_to o run query epoch) (stands o log run later));
  }

  -- There is a run with the moment after the own calls, and a first answer stands for what it has.
  pub first-stands : (session epoch : ℕ) (own : List CoreEntry) (query : BoundQuery) (groups : Groups)
      → IsClientOf FitsShard CoreShardStands ShardAnswerSays cells caller session
      → HasHistoryOf (CoreStep CoreShardStep) (FitsOwnCalls FitsShard CoreShardStands ShardAnswerSays) cells caller own
      → StandUpTo cells caller own query epoch groups → (rows : List CodedRow) × StandsFor query rows groups
  first-stands session epoch own query groups acts history stands =
      let first = acts.opening history.log in
      let r =
      client-run FitsShard CoreShardStands ShardAnswerSays CanCallCoreShard CoreShardStep linked-shards cells caller session own first.0 acts
      history first.1
      in
      (rows_up_to first.0 r.run query epoch, stands first.0 history.log r.run r.is_later)

  -- The rows that a run has at the moment make the change possible.
  can-follow : (from to : ℕ) (own : List CoreEntry) (query : BoundQuery) (kept : Groups) (change : Change) (o : Opening)
      (log : List CoreEntry) (run : List CoreEvent) → o.shards ≤ 64
      → IsLaterRun FitsShard CoreShardStands ShardAnswerSays cells o caller own log run → StandUpTo cells caller own query from kept
      → ChangeLeadsUpTo cells caller own query from to change → CanFollow query kept change
  can-follow from to own query kept change o log run small later shows leads =
      let l = leads o log run later in
      let limit = l.came.few in
      record {
        rows = rows_up_to o run query from;
        more = l.more;
        less = l.less;
        rest = l.difference.rest;
        shown = shows o log run later;
        comes = l.came.stands;
        goes = l.went.stands;
        had = l.difference.had;
        few = below (length l.more) o.shards limit small;
      }
    where
      below : (n shards : ℕ) → n ≤ shards * 2 ^ 40 → shards ≤ 64 → n ≤ 64 * 2 ^ 40
      below n shards low few = omega (arith, low, few)

  pub may-follow : (session from to : ℕ) (own : List CoreEntry) (query : BoundQuery) (kept : Groups) (change : Change)
      → IsClientOf FitsShard CoreShardStands ShardAnswerSays cells caller session
      → HasHistoryOf (CoreStep CoreShardStep) (FitsOwnCalls FitsShard CoreShardStands ShardAnswerSays) cells caller own
      → StandUpTo cells caller own query from kept → ChangeLeadsUpTo cells caller own query from to change
      → CanFollow query kept change
  may-follow session from to own query kept change acts history shows leads =
      let first = acts.opening history.log in
      let r =
      client-run FitsShard CoreShardStands ShardAnswerSays CanCallCoreShard CoreShardStep linked-shards cells caller session own first.0 acts
      history first.1
      in
      can-follow from to own query kept change first.0 history.log r.run first.1.limits.shards r.is_later shows leads

  pub followed-shows : (session holder from to : ℕ) (own : List CoreEntry) (query : BoundQuery) (kept : Groups) (new : SessionWatch)
      (change : Change) → IsHolderOf session holder → All IsAdditive query.items → StandUpTo cells caller own query from kept
      → ChangeLeadsUpTo cells caller own query from to change → FollowsSessionWatch query kept holder to change new
      → IsWatchOf cells caller own session new
  followed-shows session holder from to own query kept new change of_session additive shows leads f = record {
    sound = record {
      holder = subst (IsHolderOf session) (sym f.holder_is) of_session;
      additive = subst (λ (q : BoundQuery). All IsAdditive q.items) (sym f.query_is) additive;
      room = subst (λ (q : BoundQuery). HasRoom q 0 new.kept.groups) (sym f.query_is) f.room;
    };
    shows = λ o log run later.
        let l = leads o log run later in
        let shown = f.follows (rows_up_to o run query from) l.more l.less (l.difference.rest ++ l.more) (shows o log run later)
        l.came.stands l.went.stands (record { rest = l.difference.rest; had = l.difference.had; has = refl })
        in
        let moved = stand_moved query (l.difference.rest ++ l.more) (rows_up_to o run query to) new.kept.groups
        (IsPermutation-sym (rows_up_to o run query to) (l.difference.rest ++ l.more) l.difference.has) shown
        in
        coe 1 0 (i. StandsFor (f.query_is i) (rows_up_to o run (f.query_is i) (f.epoch_is i)) new.kept.groups) moved;
  }
