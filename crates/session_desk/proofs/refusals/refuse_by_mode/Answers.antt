use Rattle.std.proofs.Common.{◌≡◌, ◌+◌, Some, refl}
use Rattle.cube_language.specs.declared.statement.Statement.{Statement}
use Rattle.cube_journal.specs.Refusals.{code}
use Rattle.cube_journal.specs.declared.journal_entry.JournalEntry.TheVariants as entry
use Rattle.cube_journal.specs.declared.reply.Reply.{Reply}
use Rattle.cube_run.specs.RunRecords.{Says}
use Rattle.cube_run.specs.StepOutcomes.{refused_by_mode}
use Rattle.aosi_desk.specs.Desks.{desk_with_entry}
use Rattle.session_replies.specs.Modes.{mode_of}
use Rattle.session_desk.specs.Executed.{ExecutesAtDesk}
use Rattle.session_desk.proofs.Refused.{refuses_by_mode}
use Rattle.session_desk.proofs.Replying.{counted, if_refused, refuses_next}
use Rattle.session_desk.proofs.Turning.{keeps_itself}
use Rattle.session_desk.proofs.Unread.{mode_unread}
use Rattle.aosi_desk.specs.State.{state_of}
use Rattle.session_desk.proofs.refusals.refuse_by_mode.Goals as goal

pub returns-clause-executed : goal.returns-clause-executed
returns-clause-executed c =
    let desk = c.args.desk.now in
    let session = c.args.session.now in
    let r = c.args.refusal in
    if_refused c.refuse.result r
    (λ (said : Reply). (s : Statement) → refused_by_mode (mode_of session.mode) s ≡ Some r
    → ExecutesAtDesk (Says s) desk session c.refuse.new.desk (counted session) said)
    (c.refuse.new.desk ≡ desk_with_entry desk (entry.Refused 1 (session.statements + 1) (code r)))
    c.refuse.ensures.said c.refuse.ensures.desk
    (λ added s is. refuses_by_mode s r desk session c.refuse.new.desk (counted session)
    (refuses_next (code r) desk session desk c.refuse.new.desk refl added) is)

pub returns-clause-turns : goal.returns-clause-turns
returns-clause-turns c =
    keeps_itself (state_of c.args.desk.now.register).ec (mode_of c.args.session.now.mode)

pub returns-clause-no_file : goal.returns-clause-no_file
returns-clause-no_file c =
    c.refuse.ensures.no_file
    (mode_unread (mode_of c.args.session.now.mode) c.requires.refused.0 c.args.refusal c.requires.refused.1)

pub returns-clause-unread : goal.returns-clause-unread
returns-clause-unread c =
    c.refuse.ensures.unread
    (mode_unread (mode_of c.args.session.now.mode) c.requires.refused.0 c.args.refusal c.requires.refused.1)
