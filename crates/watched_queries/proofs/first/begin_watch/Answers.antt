use Rattle.std.proofs.Common.{◌≡◌}
use Rattle.std.proofs.lemmas.Result.{IfOk-weaker}
use Rattle.core_events.specs.Clients.{reader_up_to}
use Rattle.cube_core.specs.declared.shard.ShardCall.TheVariants as call
use Rattle.session_groups.specs.ShardGroups.{HasAskedAll}
use Rattle.watched_queries.proofs.FollowedWatches.{watch-folds}
use Rattle.watched_queries.proofs.WatchAnswers.{scanned-stands, scanned-watch}
use Rattle.watched_queries.specs.WatchSteps.{BeginsSessionWatch}
use Rattle.watched_queries.specs.WatchesInRuns.{IsPlainFold, IsWatchOf}
use Rattle.watched_queries.proofs.first.begin_watch.Goals as goal

pub first_watch-requires : goal.first_watch-requires
first_watch-requires g c =
    let opening = g.P.CellCaller.opening in
    let number = g.P.CellCaller.number in
    let own = g.P.CellCaller.own in
    let before = c.args.caller.now in
    let then = c.scan_shards_at_holder.new.caller in
    let got = c.in_ok-first.ensures in
    record {
      stands =
          scanned-stands (opening before) (opening then) (number before) (number then) c.args.session got.opening got.number
          c.requires.client c.args.epoch (own then) c.args.query.now c.in_ok-first.first.groups got.history got.found;
    }

pub returns-clause-all : goal.returns-clause-all
returns-clause-all g c =
    let opening = g.P.CellCaller.opening in
    let number = g.P.CellCaller.number in
    let own = g.P.CellCaller.own in
    let before = c.args.caller.now in
    let then = c.scan_shards_at_holder.new.caller in
    let got = c.in_ok-first.ensures in
    IfOk-weaker c.first_watch.result (BeginsSessionWatch c.args.query.now c.args.holder c.args.epoch c.in_ok-first.first.groups)
    (λ w. HasAskedAll (opening before) (number before) c.args.session c.args.size.now.shards
    (call.Scan c.args.shape.now c.args.query.now (reader_up_to c.args.epoch)) (own before) (own then))
    (λ w begins. got.all) c.first_watch.ensures

pub returns-clause-holder : goal.returns-clause-holder
returns-clause-holder g c =
    IfOk-weaker c.first_watch.result (BeginsSessionWatch c.args.query.now c.args.holder c.args.epoch c.in_ok-first.first.groups) (λ w. w.holder ≡ c.args.holder)
    (λ w begins. begins.holder_is) c.first_watch.ensures

pub returns-clause-epoch : goal.returns-clause-epoch
returns-clause-epoch g c =
    IfOk-weaker c.first_watch.result (BeginsSessionWatch c.args.query.now c.args.holder c.args.epoch c.in_ok-first.first.groups) (λ w. w.epoch ≡ c.args.epoch)
    (λ w begins. begins.epoch_is) c.first_watch.ensures

pub returns-clause-query : goal.returns-clause-query
returns-clause-query g c =
    IfOk-weaker c.first_watch.result (BeginsSessionWatch c.args.query.now c.args.holder c.args.epoch c.in_ok-first.first.groups) (λ w. w.query ≡ c.args.query.now)
    (λ w begins. begins.query_is) c.first_watch.ensures

pub returns-clause-watch : goal.returns-clause-watch
returns-clause-watch g c =
    let opening = g.P.CellCaller.opening in
    let number = g.P.CellCaller.number in
    let own = g.P.CellCaller.own in
    let before = c.args.caller.now in
    let then = c.scan_shards_at_holder.new.caller in
    let got = c.in_ok-first.ensures in
    IfOk-weaker c.first_watch.result (BeginsSessionWatch c.args.query.now c.args.holder c.args.epoch c.in_ok-first.first.groups)
    (IsWatchOf (opening then) (number then) (own then) c.args.session)
    (λ w begins.
    scanned-watch (opening before) (opening then) (number before) (number then) c.args.session got.opening got.number c.requires.client
    c.args.holder c.args.epoch (own then) c.args.query.now c.in_ok-first.first.groups w c.requires.holder c.requires.additive got.found begins)
    c.first_watch.ensures

pub returns-clause-fold : goal.returns-clause-fold
returns-clause-fold g c =
    let opening = g.P.CellCaller.opening in
    let number = g.P.CellCaller.number in
    let own = g.P.CellCaller.own in
    let before = c.args.caller.now in
    let then = c.scan_shards_at_holder.new.caller in
    let got = c.in_ok-first.ensures in
    IfOk-weaker c.first_watch.result (BeginsSessionWatch c.args.query.now c.args.holder c.args.epoch c.in_ok-first.first.groups)
    (IsPlainFold (opening then) (number then) (own then))
    (λ w begins.
    watch-folds (opening then) (number then) c.args.session (own then) w
    (scanned-watch (opening before) (opening then) (number before) (number then) c.args.session got.opening got.number c.requires.client
    c.args.holder c.args.epoch (own then) c.args.query.now c.in_ok-first.first.groups w c.requires.holder c.requires.additive got.found begins))
    c.first_watch.ensures
