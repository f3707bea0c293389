use Rattle.std.proofs.Common.{◌+◌, [], ◌∷◌, refl, subst, arith}
use Rattle.core_cubes.proofs.CallsForStatements.{plain-for}
use Rattle.core_cubes.proofs.CallsGoOn.{go-on-as}
use Rattle.core_cubes.proofs.CubesCreated.{refusal-tells-none}
use Rattle.core_cubes.specs.StatementCalls.{IsCallFor}
use Rattle.core_states.proofs.Refused.{counted, either-more, either-plain, if-refused, refuses}
use Rattle.core_states.specs.ExecutedInCore.{ExecutesInCore}
use Rattle.core_states.specs.LeftBehind.{IsPlainCall}
use Rattle.cube_journal.specs.declared.journal_entry.JournalEntry.TheVariants as entry
use Rattle.cube_journal.specs.declared.refusal.Refusal.TheVariants as refusal
use Rattle.cube_journal.specs.declared.reply.Reply.TheVariants as reply
use Rattle.cube_language.specs.declared.statement.Statement.TheVariants.{CreateCube}
use Rattle.cube_run.specs.RunRecords.{Says}
use Rattle.cube_run.specs.SessionStates.{Mode}
use Rattle.session_replies.proofs.Refusing.{faulty_cube}
use Rattle.session_replies.specs.StepParts.{IsStep}
use Rattle.core_cubes.proofs.cubes.refuse_fault.Goals as goal

pub returns-clause-calls : goal.returns-clause-calls
returns-clause-calls g c =
    let number = c.args.session.now.statements + 1 in
    let own = g.P.CellCaller.own c.args.caller.now in
    let now = g.P.CellCaller.own c.refuse_plainly.new.caller in
    go-on-as g.S.LinkedShard.fits g.S.LinkedShard.stands g.S.LinkedShard.says
    (g.P.CellCaller.opening c.args.caller.now) (g.P.CellCaller.number c.args.caller.now)
    c.args.session.now.number IsPlainCall (IsCallFor number (CreateCube c.args.decl.now)) own now
    (plain-for number (CreateCube c.args.decl.now))
    (either-plain g.S.LinkedShard.fits g.S.LinkedShard.stands g.S.LinkedShard.says
    (g.P.CellCaller.opening c.args.caller.now) (g.P.CellCaller.number c.args.caller.now)
    c.args.session.now.number own now (entry.Refused c.args.session.now.number number 20 ∷ []) c.refuse_plainly.result
    c.refuse_plainly.ensures.left c.refuse_plainly.ensures.stopped)

pub returns-clause-told : goal.returns-clause-told
returns-clause-told g c =
    refusal-tells-none (g.P.CellCaller.own c.refuse_plainly.new.caller) c.args.decl.now (refusal.BadCube c.args.fault)
    c.refuse_plainly.result c.refuse_plainly.ensures.said

pub returns-clause-executed : goal.returns-clause-executed
returns-clause-executed g c =
    let session = c.args.session.now in
    let own = g.P.CellCaller.own c.args.caller.now in
    let now = g.P.CellCaller.own c.refuse_plainly.new.caller in
    let d = c.args.decl.now in
    if-refused g.S.LinkedShard.fits g.S.LinkedShard.stands g.S.LinkedShard.says
    (g.P.CellCaller.opening c.args.caller.now) (g.P.CellCaller.number c.args.caller.now) session own now
    c.refuse_plainly.result (refusal.BadCube c.args.fault)
    (ExecutesInCore g.S.LinkedShard.fits g.S.LinkedShard.stands g.S.LinkedShard.says
    (g.P.CellCaller.opening c.args.caller.now) (g.P.CellCaller.number c.args.caller.now)
    (Says (CreateCube d)) session own (counted session) now)
    c.refuse_plainly.ensures.said c.refuse_plainly.ensures.left
    (λ left. refuses g.S.LinkedShard.fits g.S.LinkedShard.stands g.S.LinkedShard.says
    (g.P.CellCaller.opening c.args.caller.now) (g.P.CellCaller.number c.args.caller.now) session own now
    (Says (CreateCube d)) 20 (reply.Refused (refusal.BadCube c.args.fault)) left
    (λ run step is. faulty_cube run step d c.args.fault
    (subst (λ (m : Mode). IsStep step m (Says (CreateCube d)) (entry.Refused step.session step.number 20 ∷ []))
    c.requires.idle is) c.requires.fault))

pub returns-clause-more : goal.returns-clause-more
returns-clause-more g c =
    let few = c.requires.counted in
    record { number = refl; statements = refl; every = refl; counted = omega (arith, few) }

pub returns-clause-goes_on : goal.returns-clause-goes_on
returns-clause-goes_on g c =
    let number = c.args.session.now.statements + 1 in
    let own = g.P.CellCaller.own c.args.caller.now in
    let now = g.P.CellCaller.own c.refuse_plainly.new.caller in
    either-more g.S.LinkedShard.fits g.S.LinkedShard.stands g.S.LinkedShard.says
    (g.P.CellCaller.opening c.args.caller.now) (g.P.CellCaller.number c.args.caller.now)
    c.args.session.now.number own now (entry.Refused c.args.session.now.number number 20 ∷ []) c.refuse_plainly.result
    c.refuse_plainly.ensures.left c.refuse_plainly.ensures.stopped
