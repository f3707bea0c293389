use Rattle.std.proofs.Common.{Some}
use Rattle.std.proofs.lemmas.Option.{IfSome_then}
use Rattle.core_steps.proofs.FoundTotals.{has-room, knows-totals}
use Rattle.core_steps.proofs.OnCore.{may-query, on-core-after, same-then}
use Rattle.core_steps.proofs.queries.totals_seen.Goals as goal

pub scan_shards-requires-clause-query : goal.scan_shards-requires-clause-query
scan_shards-requires-clause-query g c =
    let mid = c.look_for.new.caller in
    may-query c.args.size.now.shards c.in_ok-cube.cube.place c.in_ok-cube.cube.schema (g.P.CellCaller.opening mid)
    (g.P.CellCaller.number mid) c.args.session (g.P.CellCaller.own mid) c.requires.some
    c.shared_shape-shape.result.now c.shared_shape-shape.ensures.value c.shared_shape-shape.ensures.sound
    c.in_ok-cube.ensures.knows c.in_ok-query.query c.in_ok-query.ensures.cube
    (rw c.shape.ensures at c.in_ok-query.ensures.sound) c.in_ok-query.ensures.parts

pub scan_shards-requires-clause-holds : goal.scan_shards-requires-clause-holds
scan_shards-requires-clause-holds g c =
    c.in_ok-cube.ensures.same.ready (Some c.args.snapshot.now) c.requires.holds

pub totals_found-requires : goal.totals_found-requires
totals_found-requires g c =
    let opening = g.P.CellCaller.opening in
    let number = g.P.CellCaller.number in
    let own = g.P.CellCaller.own in
    let mid = c.look_for.new.caller in
    let after = c.scan_shards.new.caller in
    let did = c.scan_shards.ensures in
    has-room c.args.size.now.shards (opening after) (number after) c.args.session (own after) c.in_ok-query.query
    c.args.snapshot.now c.in-Ok.found.groups c.in-Ok.ensures.found c.requires.some
    (on-core-after c.args.size.now.shards c.args.session (opening mid) (opening after) (number mid) (number after)
    did.opening did.number c.in_ok-cube.ensures.on_core)
    (g.met.P.TracedCaller.traced c.args.board.now after did.board)

pub returns-in-Ok-clause-same : goal.returns-in-Ok-clause-same
returns-in-Ok-clause-same g c =
    let opening = g.P.CellCaller.opening in
    let number = g.P.CellCaller.number in
    let own = g.P.CellCaller.own in
    let before = c.args.caller.now in
    let mid = c.look_for.new.caller in
    let after = c.scan_shards.new.caller in
    IfSome_then c.totals_found.result c.totals_found.ensures
    (λ totals has. same-then c.args.session (opening before) (opening mid) (opening after) (number before) (number mid)
    (number after) (own before) (own mid) (own after) c.in_ok-cube.ensures.same c.scan_shards.ensures.holds)

pub returns-in-Ok-clause-found : goal.returns-in-Ok-clause-found
returns-in-Ok-clause-found g c =
    let opening = g.P.CellCaller.opening in
    let number = g.P.CellCaller.number in
    let own = g.P.CellCaller.own in
    let after = c.scan_shards.new.caller in
    IfSome_then c.totals_found.result c.totals_found.ensures
    (λ totals has. knows-totals c.args.size.now.shards (opening after) (number after) c.args.session (own after)
    c.in_ok-query.query c.args.snapshot.now c.in-Ok.found.groups c.in-Ok.ensures.found c.args.low c.args.high
    c.in_ok-query.ensures.asks totals has)
