use Rattle.std.proofs.Common.{◌≡◌}
use Rattle.std.proofs.lemmas.Result.{IfOk-weaker}
use Rattle.session_groups.specs.ShardGroups.{HasAskedAll}
use Rattle.watched_queries.proofs.FollowedWatches.{watch-folds}
use Rattle.watched_queries.proofs.WatchAnswers.{compared-follows, compared-watch}
use Rattle.watched_queries.proofs.WatchOutcomes.{asked-more}
use Rattle.watched_queries.specs.WatchSteps.{FollowsSessionWatch}
use Rattle.watched_queries.specs.WatchesInRuns.{IsPlainFold, IsWatchOf}
use Rattle.cube_core.specs.declared.shard.ShardCall.TheVariants as call
use Rattle.watched_queries.proofs.follow.follow_watch.Goals as goal

pub followed_watch-requires-clause-follows : goal.followed_watch-requires-clause-follows
followed_watch-requires-clause-follows g c =
    let opening = g.P.CellCaller.opening in
    let number = g.P.CellCaller.number in
    let own = g.P.CellCaller.own in
    let before = c.args.caller.now in
    let then = c.compare_shards.new.caller in
    let got = c.in_ok-change.ensures in
    let w = c.args.watch.now in
    compared-follows (opening before) (opening then) (number before) (number then) c.args.session got.opening got.number c.requires.client
    (own before) (own then)
    (asked-more (opening before) (number before) c.args.session c.args.size.now.shards
    (call.Delta c.args.shape.now c.args.query.now w.epoch c.args.epoch) (own before) (own then) got.asked)
    c.args.query.now w.epoch c.args.epoch w.kept.groups c.requires.shows c.in_ok-change.change got.found got.history

pub returns-clause-watch : goal.returns-clause-watch
returns-clause-watch g c =
    let opening = g.P.CellCaller.opening in
    let number = g.P.CellCaller.number in
    let own = g.P.CellCaller.own in
    let before = c.args.caller.now in
    let then = c.compare_shards.new.caller in
    let got = c.in_ok-change.ensures in
    let w = c.args.watch.now in
    IfOk-weaker c.followed_watch.result (FollowsSessionWatch c.args.query.now w.kept.groups c.args.holder c.args.epoch c.in_ok-change.change)
    (IsWatchOf (opening then) (number then) (own then) c.args.session)
    (λ new follows.
    compared-watch (opening before) (opening then) (number before) (number then) c.args.session got.opening got.number c.requires.client
    (own before) (own then)
    (asked-more (opening before) (number before) c.args.session c.args.size.now.shards
    (call.Delta c.args.shape.now c.args.query.now w.epoch c.args.epoch) (own before) (own then) got.asked)
    c.args.query.now w.epoch c.args.epoch w.kept.groups c.requires.shows c.in_ok-change.change got.found c.args.holder new c.requires.holder
    c.requires.additive follows)
    c.followed_watch.ensures

pub returns-clause-all : goal.returns-clause-all
returns-clause-all g c =
    let opening = g.P.CellCaller.opening in
    let number = g.P.CellCaller.number in
    let own = g.P.CellCaller.own in
    let before = c.args.caller.now in
    let then = c.compare_shards.new.caller in
    let got = c.in_ok-change.ensures in
    let w = c.args.watch.now in
    IfOk-weaker c.followed_watch.result (FollowsSessionWatch c.args.query.now c.args.watch.now.kept.groups c.args.holder c.args.epoch c.in_ok-change.change)
    (λ new. HasAskedAll (opening before) (number before) c.args.session c.args.size.now.shards
    (call.Delta c.args.shape.now c.args.query.now w.epoch c.args.epoch) (own before) (own then))
    (λ new follows. got.all) c.followed_watch.ensures

pub returns-clause-holder : goal.returns-clause-holder
returns-clause-holder g c =
    IfOk-weaker c.followed_watch.result (FollowsSessionWatch c.args.query.now c.args.watch.now.kept.groups c.args.holder c.args.epoch c.in_ok-change.change) (λ new. new.holder ≡ c.args.holder)
    (λ new follows. follows.holder_is) c.followed_watch.ensures

pub returns-clause-epoch : goal.returns-clause-epoch
returns-clause-epoch g c =
    IfOk-weaker c.followed_watch.result (FollowsSessionWatch c.args.query.now c.args.watch.now.kept.groups c.args.holder c.args.epoch c.in_ok-change.change) (λ new. new.epoch ≡ c.args.epoch)
    (λ new follows. follows.epoch_is) c.followed_watch.ensures

pub returns-clause-query : goal.returns-clause-query
returns-clause-query g c =
    IfOk-weaker c.followed_watch.result (FollowsSessionWatch c.args.query.now c.args.watch.now.kept.groups c.args.holder c.args.epoch c.in_ok-change.change) (λ new. new.query ≡ c.args.query.now)
    (λ new follows. follows.query_is) c.followed_watch.ensures

pub returns-clause-fold : goal.returns-clause-fold
returns-clause-fold g c =
    let opening = g.P.CellCaller.opening in
    let number = g.P.CellCaller.number in
    let own = g.P.CellCaller.own in
    let before = c.args.caller.now in
    let then = c.compare_shards.new.caller in
    let got = c.in_ok-change.ensures in
    let w = c.args.watch.now in
    IfOk-weaker c.followed_watch.result (FollowsSessionWatch c.args.query.now w.kept.groups c.args.holder c.args.epoch c.in_ok-change.change)
    (IsPlainFold (opening then) (number then) (own then))
    (λ new follows.
    watch-folds (opening then) (number then) c.args.session (own then) new
    (compared-watch (opening before) (opening then) (number before) (number then) c.args.session got.opening got.number c.requires.client
    (own before) (own then)
    (asked-more (opening before) (number before) c.args.session c.args.size.now.shards
    (call.Delta c.args.shape.now c.args.query.now w.epoch c.args.epoch) (own before) (own then) got.asked)
    c.args.query.now w.epoch c.args.epoch w.kept.groups c.requires.shows c.in_ok-change.change got.found c.args.holder new c.requires.holder
    c.requires.additive follows))
    c.followed_watch.ensures
