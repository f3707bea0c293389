use Rattle.std.proofs.Common.{◌+◌}
use Rattle.core_cubes.proofs.CallsForStatements.{plain-for}
use Rattle.core_cubes.proofs.CallsGoOn.{go-on-as}
use Rattle.core_cubes.proofs.CubesFound.{memory-by-name}
use Rattle.core_cubes.proofs.ExecutedBy.{watched-for-this}
use Rattle.core_cubes.specs.StatementCalls.{IsCallFor}
use Rattle.core_states.specs.LeftBehind.{IsPlainCall}
use Rattle.core_cubes.proofs.looking.refuse_search.Goals as goal

pub returns-clause-calls : goal.returns-clause-calls
returns-clause-calls g c =
    let number = c.args.session.now.statements + 1 in
    go-on-as g.S.LinkedShard.fits g.S.LinkedShard.stands g.S.LinkedShard.says
    (g.P.CellCaller.opening c.args.caller.now) (g.P.CellCaller.number c.args.caller.now)
    c.args.session.now.number IsPlainCall (IsCallFor number c.args.statement.now)
    (g.P.CellCaller.own c.args.caller.now) (g.P.CellCaller.own c.refuse_memory.new.caller)
    (plain-for number c.args.statement.now) c.refuse_memory.ensures.plain

pub returns-clause-said : goal.returns-clause-said
returns-clause-said g c = memory-by-name c.args.name.now c.refuse_memory.result c.refuse_memory.ensures.said

pub returns-clause-executed : goal.returns-clause-executed
returns-clause-executed g c =
    watched-for-this g.S.LinkedShard.fits g.S.LinkedShard.stands g.S.LinkedShard.says
    (g.P.CellCaller.opening c.args.caller.now) (g.P.CellCaller.number c.args.caller.now)
    c.args.statement.now c.args.session.now c.refuse_memory.new.session (g.P.CellCaller.own c.args.caller.now)
    (g.P.CellCaller.own c.refuse_memory.new.caller) c.refuse_memory.result c.refuse_memory.ensures.executed
