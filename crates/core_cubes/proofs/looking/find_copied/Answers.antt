use Rattle.std.proofs.Common.{◌∙◌, ◌+◌, [], ◌∷◌, ◌++◌, List, ℕ, refl, sym, ap, subst, arith}
use Rattle.std.specs.Prelude.{IfErr, IfOk, OnOk, Result}
use Rattle.core_program.specs.ClientCalls.{desk_entry}
use Rattle.core_cells.specs.declared.desk.DeskAnswer.TheVariants as answer
use Rattle.core_cells.specs.declared.desk.DeskCall.TheVariants as call
use Rattle.core_cubes.proofs.CallsForStatements.{plain-for}
use Rattle.core_cubes.proofs.CallsGoOn.{go-on-as}
use Rattle.core_cubes.proofs.CubesFound.{calls-by-search, counts-either-way, executed-by-search, found-by-search, left-by-search, memory-by-name, said-by-search, stands-by-search, stopped-by-search, told-by-search}
use Rattle.core_cubes.specs.ExecutedWatched.{ExecutesWatched}
use Rattle.core_cubes.specs.MadeAndFound.{IsRefusedByName}
use Rattle.core_cubes.specs.StandingCubes.{HasFound, StandsBefore}
use Rattle.core_cubes.specs.StatementCalls.{IsCallFor}
use Rattle.core_cubes.specs.declared.naming.NamedCube.{NamedCube}
use Rattle.core_states.proofs.Holding.{held_for, holds-on, ready-for-mode}
use Rattle.core_states.proofs.LeftCalls.{left-by-call}
use Rattle.core_states.proofs.Refused.{counted, either-more, either-plain, if-refused, refuses-memory, then-refused, then-stopped}
use Rattle.core_states.specs.LeftBehind.{IsPlainCall, LeavesBehind}
use Rattle.cube_journal.specs.declared.journal_entry.JournalEntry.TheVariants as entry
use Rattle.cube_journal.specs.declared.refusal.Refusal.TheVariants as refusal
use Rattle.cube_journal.specs.declared.reply.Reply.{Reply}
use Rattle.cube_run.specs.RunRecords.{Says}
use Rattle.known_cubes.specs.KnownCubes.{IsToldOfCube}
use Rattle.session_desk.specs.Executed.{IfReplied, OnStopped}
use Rattle.session_desk.specs.declared.answered.Answered.{Answered}
use Rattle.session_replies.specs.Modes.{mode_of}
use Rattle.core_cubes.proofs.looking.find_copied.Goals as goal

pub find_cube-requires-clause-ready : goal.find_cube-requires-clause-ready
find_cube-requires-clause-ready g c =
    let mode = mode_of c.args.session.now.mode in (
      held_for mode,
      ready-for-mode g.S.LinkedShard.fits g.S.LinkedShard.stands g.S.LinkedShard.says
          (g.P.CellCaller.opening c.args.caller.now) (g.P.CellCaller.number c.args.caller.now) c.args.session.now.number
          (g.P.CellCaller.own c.args.caller.now) mode c.requires.holds,
    )

pub returns-in-Some-clause-holds : goal.returns-in-Some-clause-holds
returns-in-Some-clause-holds g c =
    let after = c.find_cube.new.caller in
    holds-on g.S.LinkedShard.fits g.S.LinkedShard.stands g.S.LinkedShard.says
    (g.P.CellCaller.opening c.args.caller.now) (g.P.CellCaller.number c.args.caller.now) c.args.session.now.number
    (g.P.CellCaller.own c.args.caller.now) (g.P.CellCaller.opening after) (g.P.CellCaller.number after)
    (g.P.CellCaller.own after) (mode_of c.args.session.now.mode) c.find_cube.ensures.same c.requires.holds

pub returns-in-Some-clause-calls : goal.returns-in-Some-clause-calls
returns-in-Some-clause-calls g c =
    let session = c.args.session.now in
    let own = g.P.CellCaller.own c.args.caller.now in
    let now = g.P.CellCaller.own c.find_cube.new.caller in
    let found = c.in-Some.found in
    let asked =
    c.in-Some.ensures.own
    ∙ ap (λ (n : List ℕ). own ++ desk_entry (g.P.CellCaller.number c.args.caller.now)
    (call.FindCube session.number (session.statements + 1) n) (answer.Found found) ∷ []) c.requires.copy
    in
    calls-by-search g.S.LinkedShard.fits g.S.LinkedShard.stands g.S.LinkedShard.says
    (g.P.CellCaller.opening c.args.caller.now) (g.P.CellCaller.number c.args.caller.now)
    session c.requires.client own now c.args.statement.now c.args.name c.requires.needs found asked

pub returns-in-Some-clause-more : goal.returns-in-Some-clause-more
returns-in-Some-clause-more g c =
    let few = c.requires.counted in
    record { number = refl; statements = refl; every = refl; counted = omega (arith, few) }

pub returns-in-Some-clause-counted : goal.returns-in-Some-clause-counted
returns-in-Some-clause-counted g c = counts-either-way c.args.session.now c.cube_or_refusal.result

pub returns-in-Some-clause-found : goal.returns-in-Some-clause-found
returns-in-Some-clause-found g c =
    let session = c.args.session.now in
    let own = g.P.CellCaller.own c.args.caller.now in
    let now = g.P.CellCaller.own c.find_cube.new.caller in
    let found = c.in-Some.found in
    let asked =
    c.in-Some.ensures.own
    ∙ ap (λ (n : List ℕ). own ++ desk_entry (g.P.CellCaller.number c.args.caller.now)
    (call.FindCube session.number (session.statements + 1) n) (answer.Found found) ∷ []) c.requires.copy
    in
    subst (λ (r : Result NamedCube Answered). OnOk r (LeavesBehind g.S.LinkedShard.fits g.S.LinkedShard.stands g.S.LinkedShard.says
    (g.P.CellCaller.opening c.args.caller.now) (g.P.CellCaller.number c.args.caller.now) session.number own now []))
    (sym c.cube_or_refusal.ensures)
    (left-by-search g.S.LinkedShard.fits g.S.LinkedShard.stands g.S.LinkedShard.says
    (g.P.CellCaller.opening c.args.caller.now) (g.P.CellCaller.number c.args.caller.now)
    session c.requires.client own now c.args.statement.now c.args.name found asked)

pub returns-in-Some-clause-told : goal.returns-in-Some-clause-told
returns-in-Some-clause-told g c =
    let session = c.args.session.now in
    let own = g.P.CellCaller.own c.args.caller.now in
    let now = g.P.CellCaller.own c.find_cube.new.caller in
    let found = c.in-Some.found in
    let asked =
    c.in-Some.ensures.own
    ∙ ap (λ (n : List ℕ). own ++ desk_entry (g.P.CellCaller.number c.args.caller.now)
    (call.FindCube session.number (session.statements + 1) n) (answer.Found found) ∷ []) c.requires.copy
    in
    subst (λ (r : Result NamedCube Answered). IfOk r (λ cube. IsToldOfCube now c.args.name cube.place cube.decl))
    (sym c.cube_or_refusal.ensures)
    (told-by-search g.S.LinkedShard.fits g.S.LinkedShard.stands g.S.LinkedShard.says
    (g.P.CellCaller.opening c.args.caller.now) (g.P.CellCaller.number c.args.caller.now)
    session c.requires.client own now c.args.statement.now c.args.name found asked)

pub returns-in-Some-clause-searched : goal.returns-in-Some-clause-searched
returns-in-Some-clause-searched g c =
    let session = c.args.session.now in
    let own = g.P.CellCaller.own c.args.caller.now in
    let now = g.P.CellCaller.own c.find_cube.new.caller in
    let found = c.in-Some.found in
    let asked =
    c.in-Some.ensures.own
    ∙ ap (λ (n : List ℕ). own ++ desk_entry (g.P.CellCaller.number c.args.caller.now)
    (call.FindCube session.number (session.statements + 1) n) (answer.Found found) ∷ []) c.requires.copy
    in
    subst (λ (r : Result NamedCube Answered). IfOk r (λ cube. HasFound now c.args.name cube.place cube.decl))
    (sym c.cube_or_refusal.ensures)
    (found-by-search g.S.LinkedShard.fits g.S.LinkedShard.stands g.S.LinkedShard.says
    (g.P.CellCaller.opening c.args.caller.now) (g.P.CellCaller.number c.args.caller.now)
    session c.requires.client own now c.args.statement.now c.args.name found asked)

pub returns-in-Some-clause-stands : goal.returns-in-Some-clause-stands
returns-in-Some-clause-stands g c =
    let session = c.args.session.now in
    let own = g.P.CellCaller.own c.args.caller.now in
    let now = g.P.CellCaller.own c.find_cube.new.caller in
    let found = c.in-Some.found in
    let asked =
    c.in-Some.ensures.own
    ∙ ap (λ (n : List ℕ). own ++ desk_entry (g.P.CellCaller.number c.args.caller.now)
    (call.FindCube session.number (session.statements + 1) n) (answer.Found found) ∷ []) c.requires.copy
    in
    subst (λ (r : Result NamedCube Answered). IfOk r (λ cube. StandsBefore g.S.LinkedShard.fits g.S.LinkedShard.stands g.S.LinkedShard.says
    (g.P.CellCaller.opening c.args.caller.now) (g.P.CellCaller.number c.args.caller.now) session.number
    (session.statements + 1) own now c.args.name cube.place cube.decl))
    (sym c.cube_or_refusal.ensures)
    (stands-by-search g.S.LinkedShard.fits g.S.LinkedShard.stands g.S.LinkedShard.says
    (g.P.CellCaller.opening c.args.caller.now) (g.P.CellCaller.number c.args.caller.now)
    session c.requires.client own now c.args.statement.now c.args.name c.requires.session found asked)

pub returns-in-Some-clause-said : goal.returns-in-Some-clause-said
returns-in-Some-clause-said g c =
    subst (λ (r : Result NamedCube Answered). IfErr r (λ answered. IfReplied answered (IsRefusedByName c.args.name)))
    (sym c.cube_or_refusal.ensures) (said-by-search c.in-Some.found c.args.name)

pub returns-in-Some-clause-executed : goal.returns-in-Some-clause-executed
returns-in-Some-clause-executed g c =
    let session = c.args.session.now in
    let own = g.P.CellCaller.own c.args.caller.now in
    let now = g.P.CellCaller.own c.find_cube.new.caller in
    let found = c.in-Some.found in
    let asked =
    c.in-Some.ensures.own
    ∙ ap (λ (n : List ℕ). own ++ desk_entry (g.P.CellCaller.number c.args.caller.now)
    (call.FindCube session.number (session.statements + 1) n) (answer.Found found) ∷ []) c.requires.copy
    in
    subst (λ (r : Result NamedCube Answered). IfErr r (λ answered. IfReplied answered
    (ExecutesWatched g.S.LinkedShard.fits g.S.LinkedShard.stands g.S.LinkedShard.says
    (g.P.CellCaller.opening c.args.caller.now) (g.P.CellCaller.number c.args.caller.now)
    c.args.statement.now session own (counted session) now)))
    (sym c.cube_or_refusal.ensures)
    (executed-by-search g.S.LinkedShard.fits g.S.LinkedShard.stands g.S.LinkedShard.says
    (g.P.CellCaller.opening c.args.caller.now) (g.P.CellCaller.number c.args.caller.now)
    session c.requires.client own now c.args.statement.now c.args.name c.requires.needs found c.requires.may asked)

pub returns-in-Some-clause-stopped : goal.returns-in-Some-clause-stopped
returns-in-Some-clause-stopped g c =
    let session = c.args.session.now in
    let own = g.P.CellCaller.own c.args.caller.now in
    let now = g.P.CellCaller.own c.find_cube.new.caller in
    let found = c.in-Some.found in
    let asked =
    c.in-Some.ensures.own
    ∙ ap (λ (n : List ℕ). own ++ desk_entry (g.P.CellCaller.number c.args.caller.now)
    (call.FindCube session.number (session.statements + 1) n) (answer.Found found) ∷ []) c.requires.copy
    in
    subst (λ (r : Result NamedCube Answered). IfErr r (λ answered. OnStopped answered (LeavesBehind g.S.LinkedShard.fits g.S.LinkedShard.stands g.S.LinkedShard.says
    (g.P.CellCaller.opening c.args.caller.now) (g.P.CellCaller.number c.args.caller.now) session.number own now [])))
    (sym c.cube_or_refusal.ensures)
    (stopped-by-search g.S.LinkedShard.fits g.S.LinkedShard.stands g.S.LinkedShard.says
    (g.P.CellCaller.opening c.args.caller.now) (g.P.CellCaller.number c.args.caller.now)
    session c.requires.client own now c.args.statement.now c.args.name found)

pub refuse_plainly-requires-clause-holds : goal.refuse_plainly-requires-clause-holds
refuse_plainly-requires-clause-holds g c =
    let after = c.find_cube.new.caller in
    holds-on g.S.LinkedShard.fits g.S.LinkedShard.stands g.S.LinkedShard.says
    (g.P.CellCaller.opening c.args.caller.now) (g.P.CellCaller.number c.args.caller.now) c.args.session.now.number
    (g.P.CellCaller.own c.args.caller.now) (g.P.CellCaller.opening after) (g.P.CellCaller.number after)
    (g.P.CellCaller.own after) (mode_of c.args.session.now.mode) c.find_cube.ensures.same c.requires.holds

pub returns-in-None-clause-calls : goal.returns-in-None-clause-calls
returns-in-None-clause-calls g c =
    let session = c.args.session.now in
    let own = g.P.CellCaller.own c.args.caller.now in
    let mid = g.P.CellCaller.own c.find_cube.new.caller in
    let now = g.P.CellCaller.own c.refuse_plainly.new.caller in
    let added = entry.Refused session.number (session.statements + 1) 16 ∷ [] in
    let first =
    left-by-call g.S.LinkedShard.fits g.S.LinkedShard.stands g.S.LinkedShard.says
    (g.P.CellCaller.opening c.args.caller.now) (g.P.CellCaller.number c.args.caller.now)
    session.number c.requires.client own mid 0 (call.FindCube session.number (session.statements + 1) c.args.wanted) answer.NoMemory
    c.in-None.ensures.own (λ o log run es later are. tt) (λ k. tt)
    in
    go-on-as g.S.LinkedShard.fits g.S.LinkedShard.stands g.S.LinkedShard.says
    (g.P.CellCaller.opening c.args.caller.now) (g.P.CellCaller.number c.args.caller.now)
    session.number IsPlainCall (IsCallFor (session.statements + 1) c.args.statement.now) own now
    (plain-for (session.statements + 1) c.args.statement.now)
    (either-plain g.S.LinkedShard.fits g.S.LinkedShard.stands g.S.LinkedShard.says
    (g.P.CellCaller.opening c.args.caller.now) (g.P.CellCaller.number c.args.caller.now)
    session.number own now added c.refuse_plainly.result
    (then-refused g.S.LinkedShard.fits g.S.LinkedShard.stands g.S.LinkedShard.says
    (g.P.CellCaller.opening c.args.caller.now) (g.P.CellCaller.number c.args.caller.now)
    session.number own now mid added c.refuse_plainly.result first
    (coe 0 1 (i. IfReplied c.refuse_plainly.result (λ (said : Reply). LeavesBehind g.S.LinkedShard.fits g.S.LinkedShard.stands g.S.LinkedShard.says
    (c.find_cube.ensures.opening i) (c.find_cube.ensures.number i) session.number mid now added)) c.refuse_plainly.ensures.left))
    (then-stopped g.S.LinkedShard.fits g.S.LinkedShard.stands g.S.LinkedShard.says
    (g.P.CellCaller.opening c.args.caller.now) (g.P.CellCaller.number c.args.caller.now)
    session.number own now mid c.refuse_plainly.result first
    (coe 0 1 (i. OnStopped c.refuse_plainly.result (LeavesBehind g.S.LinkedShard.fits g.S.LinkedShard.stands g.S.LinkedShard.says
    (c.find_cube.ensures.opening i) (c.find_cube.ensures.number i) session.number mid now [])) c.refuse_plainly.ensures.stopped)))

pub returns-in-None-clause-more : goal.returns-in-None-clause-more
returns-in-None-clause-more g c =
    let few = c.requires.counted in
    record { number = refl; statements = refl; every = refl; counted = omega (arith, few) }

pub returns-in-None-clause-said : goal.returns-in-None-clause-said
returns-in-None-clause-said g c = memory-by-name c.args.name c.refuse_plainly.result c.refuse_plainly.ensures.said

pub returns-in-None-clause-executed : goal.returns-in-None-clause-executed
returns-in-None-clause-executed g c =
    let session = c.args.session.now in
    let own = g.P.CellCaller.own c.args.caller.now in
    let mid = g.P.CellCaller.own c.find_cube.new.caller in
    let now = g.P.CellCaller.own c.refuse_plainly.new.caller in
    let added = entry.Refused session.number (session.statements + 1) 16 ∷ [] in
    let first =
    left-by-call g.S.LinkedShard.fits g.S.LinkedShard.stands g.S.LinkedShard.says
    (g.P.CellCaller.opening c.args.caller.now) (g.P.CellCaller.number c.args.caller.now)
    session.number c.requires.client own mid 0 (call.FindCube session.number (session.statements + 1) c.args.wanted) answer.NoMemory
    c.in-None.ensures.own (λ o log run es later are. tt) (λ k. tt)
    in
    let s = c.args.statement.now in
    if-refused g.S.LinkedShard.fits g.S.LinkedShard.stands g.S.LinkedShard.says
    (g.P.CellCaller.opening c.args.caller.now) (g.P.CellCaller.number c.args.caller.now) session own now
    c.refuse_plainly.result refusal.NoMemory
    (ExecutesWatched g.S.LinkedShard.fits g.S.LinkedShard.stands g.S.LinkedShard.says
    (g.P.CellCaller.opening c.args.caller.now) (g.P.CellCaller.number c.args.caller.now)
    s session own (counted session) now)
    c.refuse_plainly.ensures.said
    (then-refused g.S.LinkedShard.fits g.S.LinkedShard.stands g.S.LinkedShard.says
    (g.P.CellCaller.opening c.args.caller.now) (g.P.CellCaller.number c.args.caller.now)
    session.number own now mid added c.refuse_plainly.result first
    (coe 0 1 (i. IfReplied c.refuse_plainly.result (λ (said : Reply). LeavesBehind g.S.LinkedShard.fits g.S.LinkedShard.stands g.S.LinkedShard.says
    (c.find_cube.ensures.opening i) (c.find_cube.ensures.number i) session.number mid now added)) c.refuse_plainly.ensures.left))
    (λ left past watch lets st count. refuses-memory g.S.LinkedShard.fits g.S.LinkedShard.stands g.S.LinkedShard.says
    (g.P.CellCaller.opening c.args.caller.now) (g.P.CellCaller.number c.args.caller.now) session own now
    (Says s) left past watch st count)

pub returns-in-None-clause-stopped : goal.returns-in-None-clause-stopped
returns-in-None-clause-stopped g c =
    let session = c.args.session.now in
    let own = g.P.CellCaller.own c.args.caller.now in
    let mid = g.P.CellCaller.own c.find_cube.new.caller in
    let now = g.P.CellCaller.own c.refuse_plainly.new.caller in
    let added = entry.Refused session.number (session.statements + 1) 16 ∷ [] in
    let first =
    left-by-call g.S.LinkedShard.fits g.S.LinkedShard.stands g.S.LinkedShard.says
    (g.P.CellCaller.opening c.args.caller.now) (g.P.CellCaller.number c.args.caller.now)
    session.number c.requires.client own mid 0 (call.FindCube session.number (session.statements + 1) c.args.wanted) answer.NoMemory
    c.in-None.ensures.own (λ o log run es later are. tt) (λ k. tt)
    in
    then-stopped g.S.LinkedShard.fits g.S.LinkedShard.stands g.S.LinkedShard.says
    (g.P.CellCaller.opening c.args.caller.now) (g.P.CellCaller.number c.args.caller.now)
    session.number own now mid c.refuse_plainly.result first
    (coe 0 1 (i. OnStopped c.refuse_plainly.result (LeavesBehind g.S.LinkedShard.fits g.S.LinkedShard.stands g.S.LinkedShard.says
    (c.find_cube.ensures.opening i) (c.find_cube.ensures.number i) session.number mid now [])) c.refuse_plainly.ensures.stopped)

pub returns-in-Some-clause-goes_on : goal.returns-in-Some-clause-goes_on
returns-in-Some-clause-goes_on g c =
    let session = c.args.session.now in (
      desk_entry (g.P.CellCaller.number c.args.caller.now)
          (call.FindCube session.number (session.statements + 1) c.args.wanted) (answer.Found c.in-Some.found) ∷ [],
      sym c.in-Some.ensures.own,
    )

pub returns-in-None-clause-goes_on : goal.returns-in-None-clause-goes_on
returns-in-None-clause-goes_on g c =
    let session = c.args.session.now in
    let own = g.P.CellCaller.own c.args.caller.now in
    let mid = g.P.CellCaller.own c.find_cube.new.caller in
    let now = g.P.CellCaller.own c.refuse_plainly.new.caller in
    let added = entry.Refused session.number (session.statements + 1) 16 ∷ [] in
    let first =
    left-by-call g.S.LinkedShard.fits g.S.LinkedShard.stands g.S.LinkedShard.says
    (g.P.CellCaller.opening c.args.caller.now) (g.P.CellCaller.number c.args.caller.now)
    session.number c.requires.client own mid 0 (call.FindCube session.number (session.statements + 1) c.args.wanted) answer.NoMemory
    c.in-None.ensures.own (λ o log run es later are. tt) (λ k. tt)
    in
    either-more g.S.LinkedShard.fits g.S.LinkedShard.stands g.S.LinkedShard.says
    (g.P.CellCaller.opening c.args.caller.now) (g.P.CellCaller.number c.args.caller.now)
    session.number own now added c.refuse_plainly.result
    (then-refused g.S.LinkedShard.fits g.S.LinkedShard.stands g.S.LinkedShard.says
    (g.P.CellCaller.opening c.args.caller.now) (g.P.CellCaller.number c.args.caller.now)
    session.number own now mid added c.refuse_plainly.result first
    (coe 0 1 (i. IfReplied c.refuse_plainly.result (λ (said : Reply). LeavesBehind g.S.LinkedShard.fits g.S.LinkedShard.stands g.S.LinkedShard.says
    (c.find_cube.ensures.opening i) (c.find_cube.ensures.number i) session.number mid now added)) c.refuse_plainly.ensures.left))
    (then-stopped g.S.LinkedShard.fits g.S.LinkedShard.stands g.S.LinkedShard.says
    (g.P.CellCaller.opening c.args.caller.now) (g.P.CellCaller.number c.args.caller.now)
    session.number own now mid c.refuse_plainly.result first
    (coe 0 1 (i. OnStopped c.refuse_plainly.result (LeavesBehind g.S.LinkedShard.fits g.S.LinkedShard.stands g.S.LinkedShard.says
    (c.find_cube.ensures.opening i) (c.find_cube.ensures.number i) session.number mid now [])) c.refuse_plainly.ensures.stopped))
