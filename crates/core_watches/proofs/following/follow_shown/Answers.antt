use Rattle.std.proofs.Common.{[], inr, refl, sym}
use Rattle.core_watches.proofs.BoundAnew.{bound-anew}
use Rattle.core_watches.proofs.BoundAtReaders.{bound-at-reader}
use Rattle.core_watches.specs.BoundReaders.{IsBoundInRuns}
use Rattle.core_watches.proofs.CopiedOn.{names-left, plain-holders}
use Rattle.core_watches.proofs.KeptOn.{still-told}
use Rattle.scripted_pasts.specs.Served.{IsServed}
use Rattle.shard_requests.proofs.Onward.{goes-on}
use Rattle.shard_statements.specs.OverShards.{LeavesOverShards}
use Rattle.watch_holds.specs.HolderStates.{TwoReaders}
use Rattle.watched_queries.specs.ReadersInRuns.{StandUpTo}
use Rattle.watched_queries.proofs.WatchOutcomes.{same-then}
use Rattle.core_watches.proofs.following.follow_shown.Goals as goal

pub copy_names_of_cube-requires-clause-may : goal.copy_names_of_cube-requires-clause-may
copy_names_of_cube-requires-clause-may g c = record {
  client = c.requires.served.client;
  is_session = c.requires.served.is_session;
  storable = c.requires.served.storable;
  named = c.requires.served.named;
  name = c.requires.watches.name;
  cube = c.requires.watches.told;
}

pub follow_by_names-requires-clause-served : goal.follow_by_names-requires-clause-served
follow_by_names-requires-clause-served g c =
    coe 1 0 (i. IsServed (c.copy_names_of_cube.ensures.opening i) (c.copy_names_of_cube.ensures.number i) c.args.session.now.number
    c.args.size.now.shards) c.requires.served

pub follow_by_names-requires-clause-ready : goal.follow_by_names-requires-clause-ready
follow_by_names-requires-clause-ready g c =
    (c.requires.ready.0, c.copy_names_of_cube.ensures.holds.ready c.requires.ready.0 c.requires.ready.1)

pub follow_by_names-requires-clause-readers : goal.follow_by_names-requires-clause-readers
follow_by_names-requires-clause-readers g c =
    let opening = g.P.CellCaller.opening in
    let number = g.P.CellCaller.number in
    let own = g.P.CellCaller.own in
    let before = c.args.caller.now in
    let mid = c.copy_names_of_cube.new.caller in
    let got = c.in_ok-names.ensures in
    let session = c.args.session.now.number in
    plain-holders (opening before) (opening mid) (number before) (number mid) session got.opening got.number (own before)
    (own mid) (names-left (opening before) (number before) session (own before) (own mid) c.requires.served.client got.asks)
    (TwoReaders c.args.kept.now.watch.holder c.args.kept.now.watch.epoch c.args.holder c.args.epoch) c.requires.readers

pub follow_by_names-requires-clause-told : goal.follow_by_names-requires-clause-told
follow_by_names-requires-clause-told g c =
    let own = g.P.CellCaller.own in
    let got = c.in_ok-names.ensures in (
      c.requires.watches.name,
      still-told (own c.args.caller.now) (own c.copy_names_of_cube.new.caller) c.requires.watches.name c.args.kept.now.watch.query.cube c.args.kept.now.cube
          (got.asks.added, sym got.asks.whole) c.requires.watches.told,
    )

pub follow_by_names-requires-clause-binds : goal.follow_by_names-requires-clause-binds
follow_by_names-requires-clause-binds g c = λ query at asks.
    let opening = g.P.CellCaller.opening in
    let number = g.P.CellCaller.number in
    let own = g.P.CellCaller.own in
    let before = c.args.caller.now in
    let mid = c.copy_names_of_cube.new.caller in
    let got = c.in_ok-names.ensures in
    coe 1 0 (i. IsBoundInRuns (got.opening i) (got.number i) (own mid) c.args.holder c.args.epoch c.in_ok-names.names
    c.args.kept.now.cube c.args.kept.now.asked query)
    (bound-at-reader (opening before) (number before) c.args.session.now.number c.args.holder c.args.epoch c.args.kept.now.watch.query.cube
    (own before) (own mid) (TwoReaders c.args.kept.now.watch.holder c.args.kept.now.watch.epoch c.args.holder c.args.epoch) c.requires.watches.name c.args.kept.now.cube c.args.kept.now.asked c.in_ok-names.names query c.requires.served.client
    c.requires.served.is_session (got.asks.added, sym got.asks.whole) c.requires.readers (inr (refl, refl)) c.requires.watches.told
    c.requires.watches.fits got.copied got.distinct at asks)

pub follow_by_names-requires-clause-shows : goal.follow_by_names-requires-clause-shows
follow_by_names-requires-clause-shows g c = λ query at asks.
    let opening = g.P.CellCaller.opening in
    let number = g.P.CellCaller.number in
    let own = g.P.CellCaller.own in
    let before = c.args.caller.now in
    let mid = c.copy_names_of_cube.new.caller in
    let got = c.in_ok-names.ensures in
    let w = c.args.kept.now.watch in
    coe 1 0 (i. StandUpTo (got.opening i) (got.number i) (own mid) query w.epoch w.kept.groups)
    (bound-anew (opening before) (number before) w.holder w.epoch (own before) (own mid) c.args.kept.now.cube
    c.args.kept.now.asked c.requires.bound.names c.in_ok-names.names w.query query w.kept.groups c.requires.served.named
    c.requires.rows (got.asks.added, sym got.asks.whole) c.requires.bound.bound got.copied got.distinct at asks
    c.requires.bound.watch.shows)

pub returns-clause-same : goal.returns-clause-same
returns-clause-same g c =
    let opening = g.P.CellCaller.opening in
    let number = g.P.CellCaller.number in
    let own = g.P.CellCaller.own in
    let before = c.args.caller.now in
    let mid = c.copy_names_of_cube.new.caller in
    let then = c.follow_by_names.new.caller in
    same-then c.args.session.now.number (opening before) (opening mid) (opening then) (number before) (number mid) (number then)
    (own before) (own mid) (own then) c.copy_names_of_cube.ensures.holds c.follow_by_names.ensures.same

pub returns-clause-holders : goal.returns-clause-holders
returns-clause-holders g c = λ readers have.
    let opening = g.P.CellCaller.opening in
    let number = g.P.CellCaller.number in
    let own = g.P.CellCaller.own in
    let before = c.args.caller.now in
    let mid = c.copy_names_of_cube.new.caller in
    let got = c.in_ok-names.ensures in
    let session = c.args.session.now.number in
    c.follow_by_names.ensures.holders readers
    (plain-holders (opening before) (opening mid) (number before) (number mid) session got.opening got.number (own before)
    (own mid) (names-left (opening before) (number before) session (own before) (own mid) c.requires.served.client got.asks)
    readers have)

pub returns-clause-left : goal.returns-clause-left
returns-clause-left g c =
    let opening = g.P.CellCaller.opening in
    let number = g.P.CellCaller.number in
    let own = g.P.CellCaller.own in
    let before = c.args.caller.now in
    let mid = c.copy_names_of_cube.new.caller in
    let then = c.follow_by_names.new.caller in
    let got = c.in_ok-names.ensures in
    let session = c.args.session.now.number in
    goes-on (opening before) (number before) session (own before) (own mid) (own then) [] []
    (names-left (opening before) (number before) session (own before) (own mid) c.requires.served.client got.asks)
    (coe 0 1 (i. LeavesOverShards (got.opening i) (got.number i) session (own mid) (own then) []) c.follow_by_names.ensures.left)

pub returns-in_err-names-clause-holders : goal.returns-in_err-names-clause-holders
returns-in_err-names-clause-holders g c =
    let opening = g.P.CellCaller.opening in
    let number = g.P.CellCaller.number in
    let own = g.P.CellCaller.own in
    let before = c.args.caller.now in
    let mid = c.copy_names_of_cube.new.caller in
    let got = c.copy_names_of_cube.ensures in
    let session = c.args.session.now.number in
    plain-holders (opening before) (opening mid) (number before) (number mid) session got.opening got.number (own before)
    (own mid) (names-left (opening before) (number before) session (own before) (own mid) c.requires.served.client got.asks)

pub returns-in_err-names-clause-left : goal.returns-in_err-names-clause-left
returns-in_err-names-clause-left g c =
    let own = g.P.CellCaller.own in
    let before = c.args.caller.now in
    names-left (g.P.CellCaller.opening before) (g.P.CellCaller.number before) c.args.session.now.number (own before)
    (own c.copy_names_of_cube.new.caller) c.requires.served.client c.copy_names_of_cube.ensures.asks
