use Rattle.std.proofs.Common.{[], refl, sym}
use Rattle.core_watches.proofs.BoundAtReaders.{bound-at-reader}
use Rattle.core_watches.specs.BoundReaders.{IsBoundInRuns}
use Rattle.core_watches.proofs.CopiedOn.{names-left, plain-holders}
use Rattle.core_watches.proofs.KeptOn.{still-told}
use Rattle.scripted_pasts.specs.Served.{IsServed}
use Rattle.shard_requests.proofs.Onward.{goes-on}
use Rattle.shard_statements.specs.OverShards.{LeavesOverShards}
use Rattle.watch_holds.specs.HolderStates.{LeadingReader}
use Rattle.watched_queries.proofs.WatchOutcomes.{same-then}
use Rattle.core_watches.proofs.beginning.begin_shown.Goals as goal

pub copy_names_of_cube-requires-clause-may : goal.copy_names_of_cube-requires-clause-may
copy_names_of_cube-requires-clause-may g c = record {
  client = c.requires.served.client;
  is_session = c.requires.served.is_session;
  storable = c.requires.served.storable;
  named = c.requires.served.named;
  name = c.requires.told.0;
  cube = c.requires.told.1;
}

pub begin_by_names-requires-clause-served : goal.begin_by_names-requires-clause-served
begin_by_names-requires-clause-served g c =
    coe 1 0 (i. IsServed (c.copy_names_of_cube.ensures.opening i) (c.copy_names_of_cube.ensures.number i) c.args.session.now.number
    c.args.size.now.shards) c.requires.served

pub begin_by_names-requires-clause-ready : goal.begin_by_names-requires-clause-ready
begin_by_names-requires-clause-ready g c =
    (c.requires.ready.0, c.copy_names_of_cube.ensures.holds.ready c.requires.ready.0 c.requires.ready.1)

pub begin_by_names-requires-clause-leads : goal.begin_by_names-requires-clause-leads
begin_by_names-requires-clause-leads g c =
    let opening = g.P.CellCaller.opening in
    let number = g.P.CellCaller.number in
    let own = g.P.CellCaller.own in
    let before = c.args.caller.now in
    let mid = c.copy_names_of_cube.new.caller in
    let got = c.in_ok-names.ensures in
    let session = c.args.session.now.number in
    plain-holders (opening before) (opening mid) (number before) (number mid) session got.opening got.number (own before)
    (own mid) (names-left (opening before) (number before) session (own before) (own mid) c.requires.served.client got.asks)
    (LeadingReader c.args.holder c.args.epoch) c.requires.leads

pub begin_by_names-requires-clause-told : goal.begin_by_names-requires-clause-told
begin_by_names-requires-clause-told g c =
    let own = g.P.CellCaller.own in
    let got = c.in_ok-names.ensures in (
      c.requires.told.0,
      still-told (own c.args.caller.now) (own c.copy_names_of_cube.new.caller) c.requires.told.0 c.args.place c.args.cube.now
          (got.asks.added, sym got.asks.whole) c.requires.told.1,
    )

pub begin_by_names-requires-clause-binds : goal.begin_by_names-requires-clause-binds
begin_by_names-requires-clause-binds g c = λ query at asks.
    let opening = g.P.CellCaller.opening in
    let number = g.P.CellCaller.number in
    let own = g.P.CellCaller.own in
    let before = c.args.caller.now in
    let mid = c.copy_names_of_cube.new.caller in
    let got = c.in_ok-names.ensures in
    coe 1 0 (i. IsBoundInRuns (got.opening i) (got.number i) (own mid) c.args.holder c.args.epoch c.in_ok-names.names
    c.args.cube.now c.args.statement.now query)
    (bound-at-reader (opening before) (number before) c.args.session.now.number c.args.holder c.args.epoch c.args.place
    (own before) (own mid) (LeadingReader c.args.holder c.args.epoch) c.requires.told.0 c.args.cube.now c.args.statement.now c.in_ok-names.names query c.requires.served.client
    c.requires.served.is_session (got.asks.added, sym got.asks.whole) c.requires.leads (refl, refl) c.requires.told.1
    c.requires.fits got.copied got.distinct at asks)

pub returns-clause-same : goal.returns-clause-same
returns-clause-same g c =
    let opening = g.P.CellCaller.opening in
    let number = g.P.CellCaller.number in
    let own = g.P.CellCaller.own in
    let before = c.args.caller.now in
    let mid = c.copy_names_of_cube.new.caller in
    let then = c.begin_by_names.new.caller in
    same-then c.args.session.now.number (opening before) (opening mid) (opening then) (number before) (number mid) (number then)
    (own before) (own mid) (own then) c.copy_names_of_cube.ensures.holds c.begin_by_names.ensures.same

pub returns-clause-holders : goal.returns-clause-holders
returns-clause-holders g c = λ readers have.
    let opening = g.P.CellCaller.opening in
    let number = g.P.CellCaller.number in
    let own = g.P.CellCaller.own in
    let before = c.args.caller.now in
    let mid = c.copy_names_of_cube.new.caller in
    let got = c.in_ok-names.ensures in
    let session = c.args.session.now.number in
    c.begin_by_names.ensures.holders readers
    (plain-holders (opening before) (opening mid) (number before) (number mid) session got.opening got.number (own before)
    (own mid) (names-left (opening before) (number before) session (own before) (own mid) c.requires.served.client got.asks)
    readers have)

pub returns-clause-left : goal.returns-clause-left
returns-clause-left g c =
    let opening = g.P.CellCaller.opening in
    let number = g.P.CellCaller.number in
    let own = g.P.CellCaller.own in
    let before = c.args.caller.now in
    let mid = c.copy_names_of_cube.new.caller in
    let then = c.begin_by_names.new.caller in
    let got = c.in_ok-names.ensures in
    let session = c.args.session.now.number in
    goes-on (opening before) (number before) session (own before) (own mid) (own then) [] []
    (names-left (opening before) (number before) session (own before) (own mid) c.requires.served.client got.asks)
    (coe 0 1 (i. LeavesOverShards (got.opening i) (got.number i) session (own mid) (own then) []) c.begin_by_names.ensures.left)

pub returns-in_err-names-clause-holders : goal.returns-in_err-names-clause-holders
returns-in_err-names-clause-holders g c =
    let opening = g.P.CellCaller.opening in
    let number = g.P.CellCaller.number in
    let own = g.P.CellCaller.own in
    let before = c.args.caller.now in
    let mid = c.copy_names_of_cube.new.caller in
    let got = c.copy_names_of_cube.ensures in
    let session = c.args.session.now.number in
    plain-holders (opening before) (opening mid) (number before) (number mid) session got.opening got.number (own before)
    (own mid) (names-left (opening before) (number before) session (own before) (own mid) c.requires.served.client got.asks)

pub returns-in_err-names-clause-left : goal.returns-in_err-names-clause-left
returns-in_err-names-clause-left g c =
    let own = g.P.CellCaller.own in
    let before = c.args.caller.now in
    names-left (g.P.CellCaller.opening before) (g.P.CellCaller.number before) c.args.session.now.number (own before)
    (own c.copy_names_of_cube.new.caller) c.requires.served.client c.copy_names_of_cube.ensures.asks
