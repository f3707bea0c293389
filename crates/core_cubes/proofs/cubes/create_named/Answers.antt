use Rattle.std.proofs.Common.{◌∙◌, ◌+◌, [], ◌∷◌, List, ℕ, refl, sym, ap, subst, arith}
use Rattle.core_program.specs.Knowing.{IsSessionOf}
use Rattle.core_program.specs.ClientCalls.{desk_entry}
use Rattle.core_cells.specs.declared.desk.DeskAnswer.TheVariants as answer
use Rattle.core_cells.specs.declared.desk.DeskCall.TheVariants as call
use Rattle.core_cubes.proofs.CallsForStatements.{plain-for}
use Rattle.core_cubes.proofs.CallsGoOn.{go-on-as, go-on-by-call}
use Rattle.core_cubes.proofs.CubesCreated.{answers-made, refusal-tells-none, told-made}
use Rattle.core_cubes.specs.MadeAndFound.{IsToldWhereMade}
use Rattle.core_cubes.specs.StatementCalls.{IsCallFor}
use Rattle.core_states.proofs.LeftCalls.{left-by-call}
use Rattle.core_states.proofs.Refused.{counted, either-more, either-plain, if-refused, refuses-memory, then-refused, then-stopped}
use Rattle.core_states.specs.ExecutedInCore.{ExecutesInCore}
use Rattle.core_states.specs.LeftBehind.{IsPlainCall, LeavesBehind}
use Rattle.core_states.specs.StandingInCore.{HoldsForMode}
use Rattle.cube_journal.specs.declared.journal_entry.JournalEntry.TheVariants as entry
use Rattle.cube_journal.specs.declared.refusal.Refusal.TheVariants as refusal
use Rattle.cube_journal.specs.declared.reply.Reply.{Reply}
use Rattle.cube_language.specs.declared.statement.Statement.TheVariants.{CreateCube}
use Rattle.cube_run.specs.RunRecords.{Says}
use Rattle.cube_run.specs.SessionStates.{Mode}
use Rattle.session_desk.specs.CubeReplies.{created_reply}
use Rattle.session_desk.specs.Executed.{IfReplied, OnStopped}
use Rattle.core_cubes.proofs.cubes.create_named.Goals as goal

pub create_cube-requires-clause-holds : goal.create_cube-requires-clause-holds
create_cube-requires-clause-holds g c =
    subst (λ (m : Mode). HoldsForMode g.S.LinkedShard.fits g.S.LinkedShard.stands g.S.LinkedShard.says
    (g.P.CellCaller.opening c.args.caller.now) (g.P.CellCaller.number c.args.caller.now) c.args.session.now.number
    (g.P.CellCaller.own c.args.caller.now) m) c.requires.idle c.requires.holds

pub returns-in-Some-clause-holds : goal.returns-in-Some-clause-holds
returns-in-Some-clause-holds g c =
    let mid = c.create_cube.new.caller in
    subst (λ (m : Mode). HoldsForMode g.S.LinkedShard.fits g.S.LinkedShard.stands g.S.LinkedShard.says
    (g.P.CellCaller.opening mid) (g.P.CellCaller.number mid) c.args.session.now.number (g.P.CellCaller.own mid) m)
    (sym c.requires.idle) c.create_cube.ensures.holds

pub returns-in-Some-clause-calls : goal.returns-in-Some-clause-calls
returns-in-Some-clause-calls g c =
    let session = c.args.session.now in
    go-on-by-call g.S.LinkedShard.fits g.S.LinkedShard.stands g.S.LinkedShard.says
    (g.P.CellCaller.opening c.args.caller.now) (g.P.CellCaller.number c.args.caller.now)
    session.number c.requires.client (g.P.CellCaller.own c.args.caller.now) (g.P.CellCaller.own c.create_cube.new.caller)
    (call.CreateCube session.number (session.statements + 1) c.args.decl) (answer.Created c.in-Some.made)
    c.in-Some.ensures.own (IsCallFor (session.statements + 1) (CreateCube c.args.decl))
    (λ k. record { speaks = (refl, refl); posts = tt; asks = tt; readers = tt })

pub returns-in-Some-clause-more : goal.returns-in-Some-clause-more
returns-in-Some-clause-more g c =
    let few = c.requires.counted in
    record { number = refl; statements = refl; every = refl; counted = omega (arith, few) }

pub returns-in-Some-clause-told : goal.returns-in-Some-clause-told
returns-in-Some-clause-told g c =
    let now = g.P.CellCaller.own c.create_cube.new.caller in
    subst (IsToldWhereMade now c.args.decl)
    (sym (c.created_reply.ensures ∙ ap (λ (n : List ℕ). created_reply c.in-Some.made n) c.requires.copy))
    (told-made g.S.LinkedShard.fits g.S.LinkedShard.stands g.S.LinkedShard.says
    (g.P.CellCaller.opening c.args.caller.now) (g.P.CellCaller.number c.args.caller.now)
    c.args.session.now c.requires.idle c.args.decl c.requires.made.storable (g.P.CellCaller.own c.args.caller.now) now
    c.in-Some.made c.in-Some.ensures.own)

pub returns-in-Some-clause-executed : goal.returns-in-Some-clause-executed
returns-in-Some-clause-executed g c =
    let session = c.args.session.now in
    let own = g.P.CellCaller.own c.args.caller.now in
    let now = g.P.CellCaller.own c.create_cube.new.caller in
    subst (λ (said : Reply). ExecutesInCore g.S.LinkedShard.fits g.S.LinkedShard.stands g.S.LinkedShard.says
    (g.P.CellCaller.opening c.args.caller.now) (g.P.CellCaller.number c.args.caller.now)
    (Says (CreateCube c.args.decl)) session own (counted session) now said)
    (sym (c.created_reply.ensures ∙ ap (λ (n : List ℕ). created_reply c.in-Some.made n) c.requires.copy))
    (answers-made g.S.LinkedShard.fits g.S.LinkedShard.stands g.S.LinkedShard.says
    (g.P.CellCaller.opening c.args.caller.now) (g.P.CellCaller.number c.args.caller.now)
    session c.requires.idle c.args.decl c.requires.made.storable own now c.requires.client
    c.in-Some.made c.in-Some.ensures.own)

pub refuse_plainly-requires-clause-holds : goal.refuse_plainly-requires-clause-holds
refuse_plainly-requires-clause-holds g c =
    let mid = c.create_cube.new.caller in
    subst (λ (m : Mode). HoldsForMode g.S.LinkedShard.fits g.S.LinkedShard.stands g.S.LinkedShard.says
    (g.P.CellCaller.opening mid) (g.P.CellCaller.number mid) c.args.session.now.number (g.P.CellCaller.own mid) m)
    (sym c.requires.idle) c.create_cube.ensures.holds

pub refuse_plainly-requires-clause-session : goal.refuse_plainly-requires-clause-session
refuse_plainly-requires-clause-session g c =
    coe 1 0 (i. IsSessionOf g.S.LinkedShard.fits g.S.LinkedShard.stands g.S.LinkedShard.says (c.create_cube.ensures.opening i)
    c.args.session.now.number) c.requires.session

pub returns-in-None-clause-calls : goal.returns-in-None-clause-calls
returns-in-None-clause-calls g c =
    let session = c.args.session.now in
    let own = g.P.CellCaller.own c.args.caller.now in
    let mid = g.P.CellCaller.own c.create_cube.new.caller in
    let now = g.P.CellCaller.own c.refuse_plainly.new.caller in
    let added = entry.Refused session.number (session.statements + 1) 16 ∷ [] in
    let first =
    left-by-call g.S.LinkedShard.fits g.S.LinkedShard.stands g.S.LinkedShard.says
    (g.P.CellCaller.opening c.args.caller.now) (g.P.CellCaller.number c.args.caller.now)
    session.number c.requires.client own mid 0 (call.CreateCube session.number (session.statements + 1) c.args.decl) answer.NoMemory
    c.in-None.ensures.own (λ o log run es later are. tt) (λ k. tt)
    in
    go-on-as g.S.LinkedShard.fits g.S.LinkedShard.stands g.S.LinkedShard.says
    (g.P.CellCaller.opening c.args.caller.now) (g.P.CellCaller.number c.args.caller.now)
    session.number IsPlainCall (IsCallFor (session.statements + 1) (CreateCube c.args.decl)) own now
    (plain-for (session.statements + 1) (CreateCube c.args.decl))
    (either-plain g.S.LinkedShard.fits g.S.LinkedShard.stands g.S.LinkedShard.says
    (g.P.CellCaller.opening c.args.caller.now) (g.P.CellCaller.number c.args.caller.now)
    session.number own now added c.refuse_plainly.result
    (then-refused g.S.LinkedShard.fits g.S.LinkedShard.stands g.S.LinkedShard.says
    (g.P.CellCaller.opening c.args.caller.now) (g.P.CellCaller.number c.args.caller.now)
    session.number own now mid added c.refuse_plainly.result first
    (coe 0 1 (i. IfReplied c.refuse_plainly.result (λ (said : Reply). LeavesBehind g.S.LinkedShard.fits g.S.LinkedShard.stands g.S.LinkedShard.says
    (c.create_cube.ensures.opening i) (c.create_cube.ensures.number i) session.number mid now added)) c.refuse_plainly.ensures.left))
    (then-stopped g.S.LinkedShard.fits g.S.LinkedShard.stands g.S.LinkedShard.says
    (g.P.CellCaller.opening c.args.caller.now) (g.P.CellCaller.number c.args.caller.now)
    session.number own now mid c.refuse_plainly.result first
    (coe 0 1 (i. OnStopped c.refuse_plainly.result (LeavesBehind g.S.LinkedShard.fits g.S.LinkedShard.stands g.S.LinkedShard.says
    (c.create_cube.ensures.opening i) (c.create_cube.ensures.number i) session.number mid now [])) c.refuse_plainly.ensures.stopped)))

pub returns-in-None-clause-more : goal.returns-in-None-clause-more
returns-in-None-clause-more g c =
    let few = c.requires.counted in
    record { number = refl; statements = refl; every = refl; counted = omega (arith, few) }

pub returns-in-None-clause-told : goal.returns-in-None-clause-told
returns-in-None-clause-told g c =
    refusal-tells-none (g.P.CellCaller.own c.refuse_plainly.new.caller) c.args.decl refusal.NoMemory
    c.refuse_plainly.result c.refuse_plainly.ensures.said

pub returns-in-None-clause-executed : goal.returns-in-None-clause-executed
returns-in-None-clause-executed g c =
    let session = c.args.session.now in
    let own = g.P.CellCaller.own c.args.caller.now in
    let mid = g.P.CellCaller.own c.create_cube.new.caller in
    let now = g.P.CellCaller.own c.refuse_plainly.new.caller in
    let added = entry.Refused session.number (session.statements + 1) 16 ∷ [] in
    let first =
    left-by-call g.S.LinkedShard.fits g.S.LinkedShard.stands g.S.LinkedShard.says
    (g.P.CellCaller.opening c.args.caller.now) (g.P.CellCaller.number c.args.caller.now)
    session.number c.requires.client own mid 0 (call.CreateCube session.number (session.statements + 1) c.args.decl) answer.NoMemory
    c.in-None.ensures.own (λ o log run es later are. tt) (λ k. tt)
    in
    if-refused g.S.LinkedShard.fits g.S.LinkedShard.stands g.S.LinkedShard.says
    (g.P.CellCaller.opening c.args.caller.now) (g.P.CellCaller.number c.args.caller.now) session own now
    c.refuse_plainly.result refusal.NoMemory
    (ExecutesInCore g.S.LinkedShard.fits g.S.LinkedShard.stands g.S.LinkedShard.says
    (g.P.CellCaller.opening c.args.caller.now) (g.P.CellCaller.number c.args.caller.now)
    (Says (CreateCube c.args.decl)) session own (counted session) now)
    c.refuse_plainly.ensures.said
    (then-refused g.S.LinkedShard.fits g.S.LinkedShard.stands g.S.LinkedShard.says
    (g.P.CellCaller.opening c.args.caller.now) (g.P.CellCaller.number c.args.caller.now)
    session.number own now mid added c.refuse_plainly.result first
    (coe 0 1 (i. IfReplied c.refuse_plainly.result (λ (said : Reply). LeavesBehind g.S.LinkedShard.fits g.S.LinkedShard.stands g.S.LinkedShard.says
    (c.create_cube.ensures.opening i) (c.create_cube.ensures.number i) session.number mid now added)) c.refuse_plainly.ensures.left))
    (λ left. refuses-memory g.S.LinkedShard.fits g.S.LinkedShard.stands g.S.LinkedShard.says
    (g.P.CellCaller.opening c.args.caller.now) (g.P.CellCaller.number c.args.caller.now) session own now
    (Says (CreateCube c.args.decl)) left)

pub returns-in-None-clause-stopped : goal.returns-in-None-clause-stopped
returns-in-None-clause-stopped g c =
    let session = c.args.session.now in
    let own = g.P.CellCaller.own c.args.caller.now in
    let mid = g.P.CellCaller.own c.create_cube.new.caller in
    let now = g.P.CellCaller.own c.refuse_plainly.new.caller in
    let added = entry.Refused session.number (session.statements + 1) 16 ∷ [] in
    let first =
    left-by-call g.S.LinkedShard.fits g.S.LinkedShard.stands g.S.LinkedShard.says
    (g.P.CellCaller.opening c.args.caller.now) (g.P.CellCaller.number c.args.caller.now)
    session.number c.requires.client own mid 0 (call.CreateCube session.number (session.statements + 1) c.args.decl) answer.NoMemory
    c.in-None.ensures.own (λ o log run es later are. tt) (λ k. tt)
    in
    then-stopped g.S.LinkedShard.fits g.S.LinkedShard.stands g.S.LinkedShard.says
    (g.P.CellCaller.opening c.args.caller.now) (g.P.CellCaller.number c.args.caller.now)
    session.number own now mid c.refuse_plainly.result first
    (coe 0 1 (i. OnStopped c.refuse_plainly.result (LeavesBehind g.S.LinkedShard.fits g.S.LinkedShard.stands g.S.LinkedShard.says
    (c.create_cube.ensures.opening i) (c.create_cube.ensures.number i) session.number mid now [])) c.refuse_plainly.ensures.stopped)

pub returns-in-Some-clause-goes_on : goal.returns-in-Some-clause-goes_on
returns-in-Some-clause-goes_on g c =
    let session = c.args.session.now in (
      desk_entry (g.P.CellCaller.number c.args.caller.now)
          (call.CreateCube session.number (session.statements + 1) c.args.decl) (answer.Created c.in-Some.made) ∷ [],
      sym c.in-Some.ensures.own,
    )

pub returns-in-None-clause-goes_on : goal.returns-in-None-clause-goes_on
returns-in-None-clause-goes_on g c =
    let session = c.args.session.now in
    let own = g.P.CellCaller.own c.args.caller.now in
    let mid = g.P.CellCaller.own c.create_cube.new.caller in
    let now = g.P.CellCaller.own c.refuse_plainly.new.caller in
    let added = entry.Refused session.number (session.statements + 1) 16 ∷ [] in
    let first =
    left-by-call g.S.LinkedShard.fits g.S.LinkedShard.stands g.S.LinkedShard.says
    (g.P.CellCaller.opening c.args.caller.now) (g.P.CellCaller.number c.args.caller.now)
    session.number c.requires.client own mid 0 (call.CreateCube session.number (session.statements + 1) c.args.decl) answer.NoMemory
    c.in-None.ensures.own (λ o log run es later are. tt) (λ k. tt)
    in
    either-more g.S.LinkedShard.fits g.S.LinkedShard.stands g.S.LinkedShard.says
    (g.P.CellCaller.opening c.args.caller.now) (g.P.CellCaller.number c.args.caller.now)
    session.number own now added c.refuse_plainly.result
    (then-refused g.S.LinkedShard.fits g.S.LinkedShard.stands g.S.LinkedShard.says
    (g.P.CellCaller.opening c.args.caller.now) (g.P.CellCaller.number c.args.caller.now)
    session.number own now mid added c.refuse_plainly.result first
    (coe 0 1 (i. IfReplied c.refuse_plainly.result (λ (said : Reply). LeavesBehind g.S.LinkedShard.fits g.S.LinkedShard.stands g.S.LinkedShard.says
    (c.create_cube.ensures.opening i) (c.create_cube.ensures.number i) session.number mid now added)) c.refuse_plainly.ensures.left))
    (then-stopped g.S.LinkedShard.fits g.S.LinkedShard.stands g.S.LinkedShard.says
    (g.P.CellCaller.opening c.args.caller.now) (g.P.CellCaller.number c.args.caller.now)
    session.number own now mid c.refuse_plainly.result first
    (coe 0 1 (i. OnStopped c.refuse_plainly.result (LeavesBehind g.S.LinkedShard.fits g.S.LinkedShard.stands g.S.LinkedShard.says
    (c.create_cube.ensures.opening i) (c.create_cube.ensures.number i) session.number mid now [])) c.refuse_plainly.ensures.stopped))
