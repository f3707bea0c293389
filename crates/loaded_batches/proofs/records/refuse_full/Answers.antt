use Rattle.std.proofs.Common.{sym, subst}
use Rattle.loaded_batches.specs.LoadFronts.{IsEndOfRest}
use Rattle.loaded_batches.specs.declared.records.LoadEnd.{LoadEnd}
use Rattle.loaded_batches.proofs.RestOfRecords.{ends-rest}
use Rattle.loaded_batches.proofs.records.refuse_full.Goals as goal

pub returns-clause-ended : goal.returns-clause-ended
returns-clause-ended g c =
    let new = c.take_rest.new in
    let cells = g.P.CellCaller.opening new.caller in
    let caller = g.P.CellCaller.number new.caller in
    let own = g.P.CellCaller.own new.caller in
    subst (λ (e : LoadEnd). IsEndOfRest cells caller c.args.place c.args.cube.now c.args.allowed own c.args.load.now new.load
    c.args.bad.now new.bad e) (sym c.end_of_rest.ensures)
    (ends-rest cells caller c.args.place c.args.cube.now c.args.allowed own c.args.load.now new.load c.args.bad.now new.bad
    c.args.shard c.args.rows c.in_ok-ended.ended c.in_ok-ended.ensures.rest)
