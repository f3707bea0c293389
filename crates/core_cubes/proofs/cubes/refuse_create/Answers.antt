use Rattle.std.proofs.Common.{◌+◌}
use Rattle.core_cubes.proofs.CallsForStatements.{plain-for}
use Rattle.core_cubes.proofs.CallsGoOn.{go-on-as}
use Rattle.core_cubes.proofs.CubesCreated.{refusal-tells-none}
use Rattle.core_cubes.proofs.ExecutedBy.{for-this}
use Rattle.core_cubes.specs.StatementCalls.{IsCallFor}
use Rattle.core_states.specs.ExecutedInCore.{ExecutesInCore}
use Rattle.core_states.specs.LeftBehind.{IsPlainCall}
use Rattle.cube_journal.specs.declared.refusal.Refusal.TheVariants as refusal
use Rattle.cube_journal.specs.declared.reply.Reply.{Reply}
use Rattle.cube_language.specs.declared.statement.Statement.TheVariants.{CreateCube}
use Rattle.cube_run.specs.RunRecords.{Says, Sentence}
use Rattle.core_cubes.proofs.cubes.refuse_create.Goals as goal

pub returns-clause-calls : goal.returns-clause-calls
returns-clause-calls g c =
    let number = c.args.session.now.statements + 1 in
    go-on-as g.S.LinkedShard.fits g.S.LinkedShard.stands g.S.LinkedShard.says
    (g.P.CellCaller.opening c.args.caller.now) (g.P.CellCaller.number c.args.caller.now)
    c.args.session.now.number IsPlainCall (IsCallFor number (CreateCube c.args.decl.now))
    (g.P.CellCaller.own c.args.caller.now) (g.P.CellCaller.own c.refuse_memory.new.caller)
    (plain-for number (CreateCube c.args.decl.now)) c.refuse_memory.ensures.plain

pub returns-clause-told : goal.returns-clause-told
returns-clause-told g c =
    refusal-tells-none (g.P.CellCaller.own c.refuse_memory.new.caller) c.args.decl.now refusal.NoMemory
    c.refuse_memory.result c.refuse_memory.ensures.said

pub returns-clause-executed : goal.returns-clause-executed
returns-clause-executed g c =
    for-this (λ (sentence : Sentence) (said : Reply). ExecutesInCore g.S.LinkedShard.fits g.S.LinkedShard.stands g.S.LinkedShard.says
    (g.P.CellCaller.opening c.args.caller.now) (g.P.CellCaller.number c.args.caller.now) sentence
    c.args.session.now (g.P.CellCaller.own c.args.caller.now) c.refuse_memory.new.session
    (g.P.CellCaller.own c.refuse_memory.new.caller) said)
    (Says (CreateCube c.args.decl.now)) c.refuse_memory.result c.refuse_memory.ensures.executed
