-- What a session's watch is after the calls on all shards.
use Rattle.std.proofs.Common.{◌≡◌, ℕ, List, All}
use Rattle.cube_values.specs.declared.query.BoundQuery.{BoundQuery}
use Rattle.cube_values.specs.declared.row.CodedRow.{CodedRow}
use Rattle.agg_fold.specs.Standing.{StandsFor}
use Rattle.agg_fold.specs.Tallies.{IsAdditive}
use Rattle.agg_fold.specs.declared.groups.Groups.{Groups}
use Rattle.board_callers.specs.Callers.{HasHistoryOf}
use Rattle.core_program.specs.Knowing.{IsClientOf}
use Rattle.core_events.specs.Clients.{reader_up_to}
use Rattle.core_program.specs.CoreFits.{CoreEntry, FitsOwnCalls}
use Rattle.cube_core.specs.CoreSteps.{CoreStep}
use Rattle.cube_core.specs.declared.cell.CoreCell.{CoreCell}
use Rattle.job_groups.specs.AskedEach.{HasMore}
use Rattle.linked_shards.specs.CellShards.{CoreShardStands, CoreShardStep}
use Rattle.linked_shards.specs.declared.cell.CoreShard.{CoreShard}
use Rattle.session_groups.specs.ShardGroups.{HasFoundRows, KnowsOfShards}
use Rattle.session_watches.specs.ComparedShards.{HasFoundChange}
use Rattle.shard_events.specs.ShardsInRuns.{FitsShard, ShardAnswerSays}
use Rattle.standing_query.specs.declared.change.Change.{Change}
use Rattle.watch_holds.specs.HolderStates.{IsHolderOf}
use Rattle.watched_queries.proofs.FollowedWatches.{first-shows, first-stands, followed-shows, groups-stay, may-follow}
use Rattle.watched_queries.proofs.ReaderMoments.{change-leads-on, scan-stands-on}
use Rattle.watched_queries.specs.ReadersInRuns.{StandUpTo}
use Rattle.watched_queries.specs.WatchSteps.{BeginsSessionWatch, CanFollow, FollowsSessionWatch}
use Rattle.watched_queries.specs.WatchesInRuns.{IsWatchOf}
use Rattle.watched_queries.specs.declared.watch.SessionWatch.{SessionWatch}

module _ (cells there : List (CoreCell CoreShard)) (caller number session : ℕ) (opening : there ≡ cells) (same : number ≡ caller)
    (acts : IsClientOf FitsShard CoreShardStands ShardAnswerSays cells caller session) where
  acts-there : IsClientOf FitsShard CoreShardStands ShardAnswerSays there number session
  acts-there = coe 1 0 (i. IsClientOf FitsShard CoreShardStands ShardAnswerSays (opening i) (same i) session) acts

  abbrev HasHistory : List CoreEntry → Type 0
  HasHistory now = HasHistoryOf (CoreStep CoreShardStep) (FitsOwnCalls FitsShard CoreShardStands ShardAnswerSays) there number now

  pub scanned-stands : (epoch : ℕ) (now : List CoreEntry) (query : BoundQuery) (groups : Groups) → HasHistory now
      → KnowsOfShards there number session now (HasFoundRows session query (reader_up_to epoch) groups)
      → (rows : List CodedRow) × StandsFor query rows groups
  scanned-stands epoch now query groups history knows =
      first-stands there number session epoch now query groups acts-there history
      (scan-stands-on there number session acts-there now query epoch groups knows)

  pub scanned-watch : (holder epoch : ℕ) (now : List CoreEntry) (query : BoundQuery) (groups : Groups) (w : SessionWatch)
      → IsHolderOf session holder → All IsAdditive query.items
      → KnowsOfShards there number session now (HasFoundRows session query (reader_up_to epoch) groups)
      → BeginsSessionWatch query holder epoch groups w → IsWatchOf there number now session w
  scanned-watch holder epoch now query groups w of_session additive knows begins =
      first-shows there number session holder epoch now query groups w of_session additive
      (scan-stands-on there number session acts-there now query epoch groups knows) begins

  pub shows-there : (own now : List CoreEntry) (query : BoundQuery) (from : ℕ) (kept : Groups) → HasMore own now
      → StandUpTo cells caller own query from kept → StandUpTo there number now query from kept
  shows-there own now query from kept more shows =
      groups-stay there number own now query from kept more
      (coe 1 0 (i. StandUpTo (opening i) (same i) own query from kept) shows)

  module _ (own now : List CoreEntry) (more : HasMore own now) (query : BoundQuery) (from to : ℕ) (kept : Groups)
      (shows : StandUpTo cells caller own query from kept) (change : Change)
      (knows : KnowsOfShards there number session now (HasFoundChange session query from to change)) where
    pub compared-follows : HasHistory now → CanFollow query kept change
    compared-follows history =
        may-follow there number session from to now query kept change acts-there history (shows-there own now query from kept more shows)
        (change-leads-on there number session acts-there now query from to change knows)

    pub compared-watch : (holder : ℕ) (new : SessionWatch) → IsHolderOf session holder → All IsAdditive query.items
        → FollowsSessionWatch query kept holder to change new → IsWatchOf there number now session new
    compared-watch holder new of_session additive follows =
        followed-shows there number session holder from to now query kept new change of_session additive
        (shows-there own now query from kept more shows)
        (change-leads-on there number session acts-there now query from to change knows) follows
