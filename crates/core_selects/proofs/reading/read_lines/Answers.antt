use Rattle.std.proofs.Common.{List, Some, sym, subst}
use Rattle.std.proofs.lemmas.Result.{IfOk-weaker}
use Rattle.core_selects.specs.ReadLines.{GoesOnHolding}
use Rattle.core_program.specs.CoreFits.{CoreEntry}
use Rattle.core_selects.proofs.AsksOfCube.{may-copy}
use Rattle.core_selects.proofs.GoneOn.{holding-names, holding-then, same-here}
use Rattle.core_selects.specs.ScanSteps.{HasNamedLines}
use Rattle.core_selects.specs.ReadLines.{HasReadLines}
use Rattle.known_cubes.proofs.ToldCubes.{told-later}
use Rattle.known_cubes.specs.KnownCubes.{IsToldOfCube}
use Rattle.scripted_pasts.specs.Served.{IsServed}
use Rattle.core_selects.proofs.reading.read_lines.Goals as goal

pub copy_names_of_cube-requires-clause-may : goal.copy_names_of_cube-requires-clause-may
copy_names_of_cube-requires-clause-may g c =
    may-copy (g.P.CellCaller.opening c.args.caller.now) (g.P.CellCaller.number c.args.caller.now) c.args.session
    c.args.size.now.shards c.requires.served (g.P.CellCaller.own c.args.caller.now) c.requires.told.0 c.args.place
    c.args.cube.now c.requires.told.1

pub read_named-requires-clause-served : goal.read_named-requires-clause-served
read_named-requires-clause-served g c =
    let did = c.copy_names_of_cube.ensures in
    coe 1 0 (i. IsServed (did.opening i) (did.number i) c.args.session c.args.size.now.shards) c.requires.served

pub read_named-requires-clause-ready : goal.read_named-requires-clause-ready
read_named-requires-clause-ready g c =
    c.copy_names_of_cube.ensures.holds.ready (Some c.args.snapshot.now) c.requires.ready

pub read_named-requires-clause-told : goal.read_named-requires-clause-told
read_named-requires-clause-told g c =
    let asks = c.copy_names_of_cube.ensures.asks in (
      c.requires.told.0,
      subst (λ (l : List CoreEntry). IsToldOfCube l c.requires.told.0 c.args.place c.args.cube.now) (sym asks.whole)
          (told-later (g.P.CellCaller.own c.args.caller.now) asks.added c.requires.told.0 c.args.place c.args.cube.now
          c.requires.told.1),
    )

pub returns-in-Ok-clause-holding : goal.returns-in-Ok-clause-holding
returns-in-Ok-clause-holding g c =
    let own = g.P.CellCaller.own in
    let cells = g.P.CellCaller.opening c.args.caller.now in
    let number = g.P.CellCaller.number c.args.caller.now in
    let mid = c.copy_names_of_cube.new.caller in
    let after = c.read_named.new.caller in
    let did = c.copy_names_of_cube.ensures in
    holding-then cells number c.args.session (own c.args.caller.now) (own mid) (own after)
    (holding-names cells number c.args.session c.requires.served.client (own c.args.caller.now) (own mid) did.asks
    (same-here c.args.session cells number (own c.args.caller.now) (g.P.CellCaller.opening mid) (g.P.CellCaller.number mid)
    (own mid) did.opening did.number did.holds))
    (coe 0 1 (i. GoesOnHolding (did.opening i) (did.number i) c.args.session (own mid) (own after))
    c.read_named.ensures.holding)

pub returns-in-Ok-clause-read : goal.returns-in-Ok-clause-read
returns-in-Ok-clause-read g c =
    let own = g.P.CellCaller.own in
    let cells = g.P.CellCaller.opening c.args.caller.now in
    let number = g.P.CellCaller.number c.args.caller.now in
    let mid = c.copy_names_of_cube.new.caller in
    let after = c.read_named.new.caller in
    let did = c.copy_names_of_cube.ensures in
    let names = c.in-Ok.names in
    IfOk-weaker c.read_named.result
    (HasNamedLines (g.P.CellCaller.opening mid) (g.P.CellCaller.number mid) c.args.session c.args.place c.args.cube.now
    c.args.statement.now c.args.snapshot.now names (own mid) (own after))
    (HasReadLines cells number c.args.session c.args.place c.args.cube.now c.args.statement.now c.args.snapshot.now
    (own c.args.caller.now) (own after))
    (λ lines named.
    let n =
    coe 0 1 (i. HasNamedLines (did.opening i) (did.number i) c.args.session c.args.place c.args.cube.now
    c.args.statement.now c.args.snapshot.now names (own mid) (own after) lines) named
    in
    record {
      copied = own mid;
      scanned = n.lines_are.scanned;
      names = names;
      query = n.query;
      groups = n.lines_are.groups;
      copying =
          holding-names cells number c.args.session c.requires.served.client (own c.args.caller.now) (own mid) did.asks
          (same-here c.args.session cells number (own c.args.caller.now) (g.P.CellCaller.opening mid)
          (g.P.CellCaller.number mid) (own mid) did.opening did.number did.holds);
      scanning = n.lines_are.scanning;
      making = n.lines_are.making;
      are_copied = c.in-Ok.ensures.copied;
      bound = n.bound;
      found = n.lines_are.found;
      are = n.lines_are.are;
    })
    c.read_named.ensures.read

pub returns-in-Err-clause-holding : goal.returns-in-Err-clause-holding
returns-in-Err-clause-holding g c =
    let own = g.P.CellCaller.own in
    let cells = g.P.CellCaller.opening c.args.caller.now in
    let number = g.P.CellCaller.number c.args.caller.now in
    let mid = c.copy_names_of_cube.new.caller in
    let did = c.copy_names_of_cube.ensures in
    holding-names cells number c.args.session c.requires.served.client (own c.args.caller.now) (own mid) did.asks
    (same-here c.args.session cells number (own c.args.caller.now) (g.P.CellCaller.opening mid) (g.P.CellCaller.number mid)
    (own mid) did.opening did.number did.holds)
