use Rattle.std.proofs.Common.{◌+◌, [], ◌∷◌, refl, subst, arith}
use Rattle.core_cells.specs.declared.desk.DeskAnswer.TheVariants as answer
use Rattle.core_cells.specs.declared.desk.DeskCall.TheVariants as call
use Rattle.core_states.proofs.LeftCalls.{left-by-call}
use Rattle.core_states.proofs.Refused.{counted, either-plain, if-refused, refuses-memory, then-refused, then-stopped}
use Rattle.core_states.specs.ExecutedInCore.{ExecutesInCore}
use Rattle.core_states.specs.LeftBehind.{LeavesBehind}
use Rattle.core_states.specs.StandingInCore.{HoldsForMode}
use Rattle.cube_journal.specs.declared.journal_entry.JournalEntry.TheVariants as entry
use Rattle.cube_journal.specs.declared.note.Note.TheVariants as note
use Rattle.cube_journal.specs.declared.refusal.Refusal.TheVariants as refusal
use Rattle.cube_journal.specs.declared.reply.Reply.{Reply}
use Rattle.cube_language.specs.declared.statement.Statement.TheVariants.{Rollback}
use Rattle.cube_run.specs.RunRecords.{Says}
use Rattle.session_desk.specs.Executed.{IfReplied, OnStopped}
use Rattle.session_replies.specs.Modes.{mode_of}
use Rattle.session_replies.specs.declared.mode.SessionMode.{SessionMode}
use Rattle.session_replies.specs.declared.mode.SessionMode.TheVariants as variant
use Rattle.core_states.proofs.Holding.{held_for, holds-on, ready-for-mode}
use Rattle.core_states.proofs.Transacting.{clears}
use Rattle.core_states.proofs.transactions.clear.Goals as goal

pub leave_note-requires-clause-ready : goal.leave_note-requires-clause-ready
leave_note-requires-clause-ready g c =
    let mode = mode_of c.args.session.now.mode in (
      held_for mode,
      ready-for-mode g.S.LinkedShard.fits g.S.LinkedShard.stands g.S.LinkedShard.says
          (g.P.CellCaller.opening c.args.caller.now) (g.P.CellCaller.number c.args.caller.now) c.args.session.now.number (g.P.CellCaller.own c.args.caller.now) mode c.requires.holds,
    )

pub leave_note-requires-clause-may : goal.leave_note-requires-clause-may
leave_note-requires-clause-may g c =
    c.plain_notes_are_allowed.ensures (g.P.CellCaller.opening c.args.caller.now) (g.P.CellCaller.number c.args.caller.now)
    c.args.session.now.number (g.P.CellCaller.own c.args.caller.now) (note.Cleared c.args.session.now.number (c.args.session.now.statements + 1)) refl

pub refuse_plainly-requires-clause-holds : goal.refuse_plainly-requires-clause-holds
refuse_plainly-requires-clause-holds g c =
    let mid = c.leave_note.new.caller in
    holds-on g.S.LinkedShard.fits g.S.LinkedShard.stands g.S.LinkedShard.says (g.P.CellCaller.opening c.args.caller.now) (g.P.CellCaller.number c.args.caller.now)
    c.args.session.now.number (g.P.CellCaller.own c.args.caller.now) (g.P.CellCaller.opening mid) (g.P.CellCaller.number mid)
    (g.P.CellCaller.own mid) (mode_of c.args.session.now.mode) c.leave_note.ensures.same c.requires.holds

pub returns-in-Some-clause-executed : goal.returns-in-Some-clause-executed
returns-in-Some-clause-executed g c =
    clears g.S.LinkedShard.fits g.S.LinkedShard.stands g.S.LinkedShard.says (g.P.CellCaller.opening c.args.caller.now) (g.P.CellCaller.number c.args.caller.now) c.args.session.now
    c.requires.client (g.P.CellCaller.own c.args.caller.now) (g.P.CellCaller.own c.leave_note.new.caller) c.args.epoch c.in-Some.field-0
    c.requires.aborted c.in-Some.ensures.own

pub returns-in-Some-clause-holds : goal.returns-in-Some-clause-holds
returns-in-Some-clause-holds g c =
    let after = c.leave_note.new.caller in
    holds-on g.S.LinkedShard.fits g.S.LinkedShard.stands g.S.LinkedShard.says (g.P.CellCaller.opening c.args.caller.now) (g.P.CellCaller.number c.args.caller.now)
    c.args.session.now.number (g.P.CellCaller.own c.args.caller.now) (g.P.CellCaller.opening after) (g.P.CellCaller.number after)
    (g.P.CellCaller.own after) (mode_of (variant.Aborted c.args.epoch)) c.leave_note.ensures.same
    (subst (λ (m : SessionMode). HoldsForMode g.S.LinkedShard.fits g.S.LinkedShard.stands g.S.LinkedShard.says
    (g.P.CellCaller.opening c.args.caller.now) (g.P.CellCaller.number c.args.caller.now) c.args.session.now.number (g.P.CellCaller.own c.args.caller.now) (mode_of m)) c.requires.aborted c.requires.holds)

pub returns-in-Some-clause-plain : goal.returns-in-Some-clause-plain
returns-in-Some-clause-plain g c =
    (left-by-call g.S.LinkedShard.fits g.S.LinkedShard.stands g.S.LinkedShard.says (g.P.CellCaller.opening c.args.caller.now) (g.P.CellCaller.number c.args.caller.now)
    c.args.session.now.number c.requires.client (g.P.CellCaller.own c.args.caller.now) (g.P.CellCaller.own c.leave_note.new.caller) 0
    (call.Note (note.Cleared c.args.session.now.number (c.args.session.now.statements + 1))) (answer.Counted c.in-Some.field-0) c.in-Some.ensures.own (λ o log run es later are. tt) (λ k. tt)).plain

pub returns-in-None-clause-executed : goal.returns-in-None-clause-executed
returns-in-None-clause-executed g c =
    let session = c.args.session.now in
    let own = (g.P.CellCaller.own c.args.caller.now) in
    let mid = g.P.CellCaller.own c.leave_note.new.caller in
    let now = g.P.CellCaller.own c.refuse_plainly.new.caller in
    if-refused g.S.LinkedShard.fits g.S.LinkedShard.stands g.S.LinkedShard.says (g.P.CellCaller.opening c.args.caller.now) (g.P.CellCaller.number c.args.caller.now) session own now
    c.refuse_plainly.result refusal.NoMemory
    (ExecutesInCore g.S.LinkedShard.fits g.S.LinkedShard.stands g.S.LinkedShard.says (g.P.CellCaller.opening c.args.caller.now) (g.P.CellCaller.number c.args.caller.now) (Says Rollback)
    session own (counted session) now)
    c.refuse_plainly.ensures.said
    (then-refused g.S.LinkedShard.fits g.S.LinkedShard.stands g.S.LinkedShard.says (g.P.CellCaller.opening c.args.caller.now) (g.P.CellCaller.number c.args.caller.now)
    session.number own now mid (entry.Refused session.number (session.statements + 1) 16 ∷ []) c.refuse_plainly.result
    (left-by-call g.S.LinkedShard.fits g.S.LinkedShard.stands g.S.LinkedShard.says (g.P.CellCaller.opening c.args.caller.now) (g.P.CellCaller.number c.args.caller.now)
    session.number c.requires.client own mid 0 (call.Note (note.Cleared c.args.session.now.number (c.args.session.now.statements + 1))) answer.NoMemory c.in-None.ensures.own
    (λ o log run es later are. tt) (λ k. tt))
    (coe 0 1 (i. IfReplied c.refuse_plainly.result (λ (said : Reply). LeavesBehind g.S.LinkedShard.fits g.S.LinkedShard.stands g.S.LinkedShard.says
    (c.leave_note.ensures.opening i) (c.leave_note.ensures.number i) session.number mid now
    (entry.Refused session.number (session.statements + 1) 16 ∷ []))) c.refuse_plainly.ensures.left))
    (λ left. refuses-memory g.S.LinkedShard.fits g.S.LinkedShard.stands g.S.LinkedShard.says (g.P.CellCaller.opening c.args.caller.now) (g.P.CellCaller.number c.args.caller.now) session own now (Says Rollback) left)

pub returns-in-None-clause-stopped : goal.returns-in-None-clause-stopped
returns-in-None-clause-stopped g c =
    let session = c.args.session.now in
    let own = (g.P.CellCaller.own c.args.caller.now) in
    let mid = g.P.CellCaller.own c.leave_note.new.caller in
    let now = g.P.CellCaller.own c.refuse_plainly.new.caller in
    then-stopped g.S.LinkedShard.fits g.S.LinkedShard.stands g.S.LinkedShard.says (g.P.CellCaller.opening c.args.caller.now) (g.P.CellCaller.number c.args.caller.now)
    session.number own now mid c.refuse_plainly.result
    (left-by-call g.S.LinkedShard.fits g.S.LinkedShard.stands g.S.LinkedShard.says (g.P.CellCaller.opening c.args.caller.now) (g.P.CellCaller.number c.args.caller.now)
    session.number c.requires.client own mid 0 (call.Note (note.Cleared c.args.session.now.number (c.args.session.now.statements + 1))) answer.NoMemory c.in-None.ensures.own
    (λ o log run es later are. tt) (λ k. tt))
    (coe 0 1 (i. OnStopped c.refuse_plainly.result (LeavesBehind g.S.LinkedShard.fits g.S.LinkedShard.stands g.S.LinkedShard.says
    (c.leave_note.ensures.opening i) (c.leave_note.ensures.number i) session.number mid now [])) c.refuse_plainly.ensures.stopped)

pub returns-in-None-clause-plain : goal.returns-in-None-clause-plain
returns-in-None-clause-plain g c =
    let session = c.args.session.now in
    let own = (g.P.CellCaller.own c.args.caller.now) in
    let mid = g.P.CellCaller.own c.leave_note.new.caller in
    let now = g.P.CellCaller.own c.refuse_plainly.new.caller in
    let added = entry.Refused session.number (session.statements + 1) 16 ∷ [] in
    let first = (left-by-call g.S.LinkedShard.fits g.S.LinkedShard.stands g.S.LinkedShard.says (g.P.CellCaller.opening c.args.caller.now) (g.P.CellCaller.number c.args.caller.now)
    session.number c.requires.client own mid 0 (call.Note (note.Cleared c.args.session.now.number (c.args.session.now.statements + 1))) answer.NoMemory c.in-None.ensures.own
    (λ o log run es later are. tt) (λ k. tt))
    in
    either-plain g.S.LinkedShard.fits g.S.LinkedShard.stands g.S.LinkedShard.says (g.P.CellCaller.opening c.args.caller.now) (g.P.CellCaller.number c.args.caller.now)
    session.number own now added c.refuse_plainly.result
    (then-refused g.S.LinkedShard.fits g.S.LinkedShard.stands g.S.LinkedShard.says (g.P.CellCaller.opening c.args.caller.now) (g.P.CellCaller.number c.args.caller.now)
    session.number own now mid added c.refuse_plainly.result first
    (coe 0 1 (i. IfReplied c.refuse_plainly.result (λ (said : Reply). LeavesBehind g.S.LinkedShard.fits g.S.LinkedShard.stands g.S.LinkedShard.says
    (c.leave_note.ensures.opening i) (c.leave_note.ensures.number i) session.number mid now added)) c.refuse_plainly.ensures.left))
    (then-stopped g.S.LinkedShard.fits g.S.LinkedShard.stands g.S.LinkedShard.says (g.P.CellCaller.opening c.args.caller.now) (g.P.CellCaller.number c.args.caller.now)
    session.number own now mid c.refuse_plainly.result first
    (coe 0 1 (i. OnStopped c.refuse_plainly.result (LeavesBehind g.S.LinkedShard.fits g.S.LinkedShard.stands g.S.LinkedShard.says
    (c.leave_note.ensures.opening i) (c.leave_note.ensures.number i) session.number mid now [])) c.refuse_plainly.ensures.stopped))

pub returns-in-None-clause-more : goal.returns-in-None-clause-more
returns-in-None-clause-more g c =
    let few = c.requires.counted in
    record { number = refl; statements = refl; every = refl; counted = omega (arith, few) }

pub returns-in-Some-clause-more : goal.returns-in-Some-clause-more
returns-in-Some-clause-more g c =
    let few = c.requires.counted in
    record { number = refl; statements = refl; every = refl; counted = omega (arith, few) }
