use Rattle.std.proofs.Common.{◌≡◌, ◌+◌, refl}
use Rattle.cube_language.specs.declared.statement.Statement.TheVariants.{CreateCube}
use Rattle.cube_journal.specs.declared.journal_entry.JournalEntry.TheVariants as entry
use Rattle.cube_journal.specs.declared.refusal.Refusal.TheVariants as refusal
use Rattle.cube_run.specs.RunRecords.{Says}
use Rattle.aosi_desk.specs.Desks.{desk_with_entry}
use Rattle.session_desk.specs.Executed.{ExecutesAtDesk}
use Rattle.session_desk.proofs.Making.{refuses_faulty}
use Rattle.session_desk.proofs.Replying.{counted, if_refused, refuses_next}
use Rattle.session_desk.proofs.Turning.{keeps_itself}
use Rattle.aosi_desk.specs.State.{state_of}
use Rattle.session_replies.specs.Modes.{mode_of}
use Rattle.session_desk.proofs.cubes.refuse_fault.Goals as goal

pub returns-clause-executed : goal.returns-clause-executed
returns-clause-executed c =
    let desk = c.args.desk.now in
    let session = c.args.session.now in
    if_refused c.refuse.result (refusal.BadCube c.args.fault)
    (ExecutesAtDesk (Says (CreateCube c.args.decl.now)) desk session c.refuse.new.desk (counted session))
    (c.refuse.new.desk ≡ desk_with_entry desk (entry.Refused 1 (session.statements + 1) 20))
    c.refuse.ensures.said c.refuse.ensures.desk
    (λ added. refuses_faulty c.args.decl.now c.args.fault desk session c.refuse.new.desk (counted session)
    c.requires.idle (refuses_next 20 desk session desk c.refuse.new.desk refl added) c.requires.fault)

pub returns-clause-turns : goal.returns-clause-turns
returns-clause-turns c =
    keeps_itself (state_of c.args.desk.now.register).ec (mode_of c.args.session.now.mode)
