use Rattle.std.proofs.Common.{◌∙◌, List, ℕ, ap, sym, subst}
use Rattle.std.proofs.lemmas.Result.{IfOk-weaker}
use Rattle.condition_spans.specs.Codes.{lists_at}
use Rattle.core_selects.proofs.AsksOfCube.{asks-rows, may-ask}
use Rattle.core_selects.proofs.GoneOn.{holding-nothing}
use Rattle.core_selects.specs.ScanSteps.{HasNamedLines, HasScannedLines}
use Rattle.core_selects.proofs.reading.read_named.Goals as goal

pub query_by-requires-clause-form : goal.query_by-requires-clause-form
query_by-requires-clause-form g c = asks-rows c.args.statement.now c.requires.form

pub read_scanned-requires-clause-asks : goal.read_scanned-requires-clause-asks
read_scanned-requires-clause-asks g c =
    may-ask (g.P.CellCaller.opening c.args.caller.now) (g.P.CellCaller.number c.args.caller.now) c.args.session
    c.args.size.now.shards c.requires.served (g.P.CellCaller.own c.args.caller.now) c.requires.told.0 c.args.place
    c.args.cube.now c.requires.told.1 c.args.statement.now c.args.names c.in-Ok.query c.shared_shape.result.now
    c.shared_shape.ensures.value c.shared_shape.ensures.sound c.in-Ok.ensures.0

pub returns-in-Ok-clause-read : goal.returns-in-Ok-clause-read
returns-in-Ok-clause-read g c =
    let own = g.P.CellCaller.own in
    let cells = g.P.CellCaller.opening c.args.caller.now in
    let number = g.P.CellCaller.number c.args.caller.now in
    let after = c.read_scanned.new.caller in
    let bound = c.in-Ok.ensures.0 in
    let only = c.in-Ok.only in
    IfOk-weaker c.read_scanned.result
    (HasScannedLines cells number c.args.session c.args.statement.now (lists_at only 0) c.in-Ok.query c.args.snapshot.now
    (own c.args.caller.now) (own after))
    (HasNamedLines cells number c.args.session c.args.place c.args.cube.now c.args.statement.now c.args.snapshot.now
    c.args.names (own c.args.caller.now) (own after))
    (λ lines read. record {
      query = c.in-Ok.query;
      bound = bound;
      lines_are =
          subst (λ (lists : List (List (List ℕ))). HasScannedLines cells number c.args.session c.args.statement.now lists
          c.in-Ok.query c.args.snapshot.now (own c.args.caller.now) (own after) lines)
          (c.in-Ok.ensures.1 ∙ sym (ap (lists_at c.args.names) bound.place_is)) read;
    })
    c.read_scanned.ensures.read

pub returns-in-Err-clause-holding : goal.returns-in-Err-clause-holding
returns-in-Err-clause-holding g c =
    holding-nothing (g.P.CellCaller.opening c.args.caller.now) (g.P.CellCaller.number c.args.caller.now) c.args.session
    (g.P.CellCaller.own c.args.caller.now)
