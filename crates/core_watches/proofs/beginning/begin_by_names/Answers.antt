use Rattle.std.proofs.Common.{List, All, sym, subst}
use Rattle.std.proofs.lemmas.Result.{IfOk-weaker}
use Rattle.agg_fold.specs.Tallies.{IsAdditive}
use Rattle.condition_spans.specs.Codes.{lists_at}
use Rattle.core_events.specs.Clients.{reader_up_to}
use Rattle.core_states.proofs.LeftCalls.{left-nothing}
use Rattle.core_watches.proofs.KnownQueries.{may-query}
use Rattle.core_watches.proofs.ShownWatches.{shown-at}
use Rattle.core_watches.proofs.WatchItems.{additive-items, asks-rows}
use Rattle.core_watches.proofs.WatchSteps.{left-by-scan}
use Rattle.core_watches.specs.BoundQueries.{IsWithTable}
use Rattle.core_watches.specs.KeptWatches.{IsShownAt}
use Rattle.cube_values.specs.declared.query.BoundItem.{BoundItem}
use Rattle.linked_shards.specs.CellShards.{CoreShardStands}
use Rattle.shard_events.specs.ShardsInRuns.{FitsShard, ShardAnswerSays}
use Rattle.core_watches.proofs.beginning.begin_by_names.Goals as goal

pub begin_watch-requires-clause-some : goal.begin_watch-requires-clause-some
begin_watch-requires-clause-some g c = c.requires.served.some

pub begin_watch-requires-clause-client : goal.begin_watch-requires-clause-client
begin_watch-requires-clause-client g c = c.requires.served.client

pub begin_watch-requires-clause-session : goal.begin_watch-requires-clause-session
begin_watch-requires-clause-session g c = c.requires.served.is_session

pub begin_watch-requires-clause-mails : goal.begin_watch-requires-clause-mails
begin_watch-requires-clause-mails g c = c.requires.served.mails

pub query_by-requires : goal.query_by-requires
query_by-requires g c = asks-rows c.args.statement.now c.requires.form

pub begin_watch-requires-clause-query : goal.begin_watch-requires-clause-query
begin_watch-requires-clause-query g c =
    let before = c.args.caller.now in
    let b = c.in_ok-bound.ensures in
    may-query (g.P.CellCaller.opening before) (g.P.CellCaller.number before) c.args.session.now.number c.args.place
    (g.P.CellCaller.own before) c.requires.told.0 c.args.cube.now c.args.names c.args.statement.now
    c.shared_shape-shape.result.now c.in_ok-bound.bound.query c.requires.served.client c.requires.served.storable
    c.requires.told.1 c.shared_shape-shape.ensures.value c.shared_shape-shape.ensures.sound b.place_is b.query

pub begin_watch-requires-clause-additive : goal.begin_watch-requires-clause-additive
begin_watch-requires-clause-additive g c =
    subst (λ (items : List BoundItem). All IsAdditive items) (sym c.in_ok-bound.ensures.query.items)
    (additive-items c.args.cube.now c.args.statement.now c.requires.form c.requires.fits)

pub with_table-requires : goal.with_table-requires
with_table-requires g c = c.in_ok-watch.ensures.watch.sound.room

pub returns-clause-left : goal.returns-clause-left
returns-clause-left g c =
    let before = c.args.caller.now in
    left-by-scan (g.P.CellCaller.opening before) (g.P.CellCaller.number before) c.args.session.now.number
    (g.P.CellCaller.own before) (g.P.CellCaller.own c.begin_watch.new.caller) c.args.size.now.shards c.shared_shape-shape.result.now
    c.in_ok-bound.bound.query (reader_up_to c.args.epoch) c.in_ok-watch.ensures.asked

pub returns-clause-shown : goal.returns-clause-shown
returns-clause-shown g c =
    let opening = g.P.CellCaller.opening in
    let number = g.P.CellCaller.number in
    let own = g.P.CellCaller.own in
    let before = c.args.caller.now in
    let then = c.begin_watch.new.caller in
    let got = c.in_ok-watch.ensures in
    let session = c.args.session.now.number in
    let bound = c.in_ok-bound.bound in
    let w = c.in_ok-watch.watch in
    let left =
    left-by-scan (opening before) (number before) session (own before) (own then) c.args.size.now.shards
    c.shared_shape-shape.result.now bound.query (reader_up_to c.args.epoch) got.asked
    in
    IfOk-weaker c.with_table.result (IsWithTable w (lists_at bound.names 0))
    (IsShownAt (opening then) (number then) session (own then) c.args.holder c.args.epoch c.args.place c.args.cube.now
    c.args.statement.now)
    (λ shown made.
    shown-at (opening before) (opening then) (number before) (number then) session c.args.holder c.args.epoch c.args.place
    (own before) (own then) c.args.cube.now c.args.statement.now c.args.names bound w shown got.opening got.number left.more
    c.in_ok-bound.ensures got.holder got.epoch got.query got.watch
    (c.requires.binds bound.query c.in_ok-bound.ensures.place_is c.in_ok-bound.ensures.query) made)
    c.with_table.ensures

pub returns-in_err-watch-clause-left : goal.returns-in_err-watch-clause-left
returns-in_err-watch-clause-left g c =
    let before = c.args.caller.now in
    left-by-scan (g.P.CellCaller.opening before) (g.P.CellCaller.number before) c.args.session.now.number
    (g.P.CellCaller.own before) (g.P.CellCaller.own c.begin_watch.new.caller) c.args.size.now.shards c.shared_shape-shape.result.now
    c.in_ok-bound.bound.query (reader_up_to c.args.epoch) c.begin_watch.ensures.asked

pub returns-in_err-bound-clause-left : goal.returns-in_err-bound-clause-left
returns-in_err-bound-clause-left g c =
    let before = c.args.caller.now in
    left-nothing FitsShard CoreShardStands ShardAnswerSays (g.P.CellCaller.opening before) (g.P.CellCaller.number before)
    c.args.session.now.number (g.P.CellCaller.own before)

pub returns-in_err-bound-clause-same : goal.returns-in_err-bound-clause-same
returns-in_err-bound-clause-same g c =
    record { ready = λ held h. h; reader = λ s h. h; writer = λ s h. h }

pub returns-in_err-bound-clause-holders : goal.returns-in_err-bound-clause-holders
returns-in_err-bound-clause-holders g c = λ readers h. h
