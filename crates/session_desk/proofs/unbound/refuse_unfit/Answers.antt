use Rattle.std.proofs.Common.{◌≡◌, ◌+◌, refl, subst, sym}
use Rattle.cube_journal.specs.Refusals.{code}
use Rattle.cube_journal.specs.declared.journal_entry.JournalEntry.TheVariants as entry
use Rattle.cube_journal.specs.declared.refusal.Refusal.{Refusal}
use Rattle.cube_journal.specs.declared.reply.Reply.TheVariants as reply
use Rattle.cube_run.specs.RunRecords.{Says}
use Rattle.aosi_desk.specs.Desks.{desk_with_entry}
use Rattle.session_desk.specs.Executed.{ExecutesAtDesk}
use Rattle.session_desk.proofs.Refused.{Refuses}
use Rattle.session_desk.proofs.Replying.{at_refuse, counted, if_refused, refuses_next}
use Rattle.session_desk.proofs.Unfit.{refuses_failing}
use Rattle.session_desk.proofs.Turning.{keeps_itself}
use Rattle.session_desk.proofs.Unread.{misfit_unread}
use Rattle.session_desk.specs.FileReplies.{SpeaksOfNoFile}
use Rattle.aosi_desk.specs.State.{state_of}
use Rattle.session_replies.specs.Modes.{mode_of}
use Rattle.session_desk.proofs.unbound.refuse_unfit.Goals as goal

pub returns-clause-at : goal.returns-clause-at
returns-clause-at c =
    at_refuse (code c.of_misfit.result) c.refuse.result c.args.desk.now c.args.session.now c.args.desk.now
    c.refuse.new.desk refl c.requires.at c.refuse.ensures.desk c.refuse.ensures.same

pub returns-clause-executed : goal.returns-clause-executed
returns-clause-executed c =
    let desk = c.args.desk.now in
    let session = c.args.session.now in
    let s = c.args.statement.now in
    let new_desk = c.refuse.new.desk in
    let r = c.of_misfit.result in
    if_refused c.refuse.result r (ExecutesAtDesk (Says s) desk session new_desk (counted session))
    (new_desk ≡ desk_with_entry desk (entry.Refused 1 (session.statements + 1) (code r))) c.refuse.ensures.said
    c.refuse.ensures.desk
    (λ added.
    subst (λ (x : Refusal). Refuses (code x) desk session new_desk (counted session)
    → ExecutesAtDesk (Says s) desk session new_desk (counted session) (reply.Refused x)) (sym c.of_misfit.ensures)
    (λ h. refuses_failing s c.args.misfit desk session new_desk (counted session) h c.requires.may
    c.is_in_order.ensures.cubes c.requires.fails)
    (refuses_next (code r) desk session desk new_desk refl added))

pub returns-clause-turns : goal.returns-clause-turns
returns-clause-turns c =
    keeps_itself (state_of c.args.desk.now.register).ec (mode_of c.args.session.now.mode)

pub returns-clause-no_file : goal.returns-clause-no_file
returns-clause-no_file c =
    c.refuse.ensures.no_file
    (subst (λ (r : Refusal). SpeaksOfNoFile (reply.Refused r)) (sym c.of_misfit.ensures) (misfit_unread c.args.misfit))

pub returns-clause-unread : goal.returns-clause-unread
returns-clause-unread c =
    c.refuse.ensures.unread
    (subst (λ (r : Refusal). SpeaksOfNoFile (reply.Refused r)) (sym c.of_misfit.ensures) (misfit_unread c.args.misfit))
