use Rattle.std.proofs.Common.{◌∙◌, ◌+◌, List, [], ◌∷◌, ◌++◌, ap, subst}
use Rattle.turn_board.specs.History.{event}
use Rattle.core_program.specs.AnswersOfCalls.{HaveAnswers}
use Rattle.core_cells.specs.declared.mail.MailCall.TheVariants as mail
use Rattle.core_program.specs.CoreFits.{CoreEntry}
use Rattle.cube_core.specs.declared.cell.CoreCall.TheVariants as call
use Rattle.cube_core.specs.declared.jobs.JobAnswer.TheVariants as reply
use Rattle.core_program.specs.Flushing.{KnowsPart}
use Rattle.flusher_mail.proofs.AtMail.{after-reply, learns-reply}
use Rattle.flusher_mail.specs.FlusherMail.{HasNoFlush}
use Rattle.flusher_mail.proofs.mail.reply_flush.Goals as goal

pub call-requires-clause-there : goal.call-requires-clause-there
call-requires-clause-there g c =
    let shards = c.args.size.now.shards in
    rw c.mail_cell-cell.ensures
    ((c.the_flusher_fits_by_what_it_knows.ensures.reply (g.P.CellCaller.opening c.args.caller.now) (g.P.CellCaller.number c.args.caller.now)
    (c.args.size.now.sessions + 1) shards (2 + shards + shards) c.args.client (g.P.CellCaller.own c.args.caller.now) (reply.Flush c.args.said)
    c.requires.flusher c.requires.mail c.requires.may).there)

pub call-requires-clause-fits : goal.call-requires-clause-fits
call-requires-clause-fits g c =
    let shards = c.args.size.now.shards in
    rw c.mail_cell-cell.ensures
    (c.the_flusher_fits_by_what_it_knows.ensures.reply (g.P.CellCaller.opening c.args.caller.now) (g.P.CellCaller.number c.args.caller.now)
    (c.args.size.now.sessions + 1) shards (2 + shards + shards) c.args.client (g.P.CellCaller.own c.args.caller.now) (reply.Flush c.args.said)
    c.requires.flusher c.requires.mail c.requires.may)

pub expect_replied-requires : goal.expect_replied-requires
expect_replied-requires g c =
    let all =
    c.answers_fit_their_calls.ensures.all (g.P.CellCaller.opening c.call.new.self) (g.P.CellCaller.number c.call.new.self)
    (g.P.CellCaller.own c.call.new.self) c.call.ensures.history
    in (
      c.args.client,
      reply.Flush c.args.said,
      c.answers_fit_their_calls.ensures.last (g.P.CellCaller.own c.args.caller.now)
          (event (g.P.CellCaller.number c.args.caller.now) c.mail_cell-cell.result (call.Mail (mail.Reply c.args.client (reply.Flush c.args.said)))
          c.call.result)
          (subst (λ (own : List CoreEntry). HaveAnswers own) c.call.ensures.own all),
    )

pub returns-clause-learns : goal.returns-clause-learns
returns-clause-learns g c =
    let shards = c.args.size.now.shards in
    let number = g.P.CellCaller.number c.args.caller.now in
    let own = g.P.CellCaller.own c.args.caller.now in
    learns-reply g.S.LinkedShard.fits g.S.LinkedShard.stands g.S.LinkedShard.says (g.P.CellCaller.opening c.args.caller.now) number
    (c.args.size.now.sessions + 1) shards c.requires.flusher (2 + shards + shards) c.args.client c.args.said own
    (g.P.CellCaller.own c.call.new.self) c.requires.mail
    (c.call.ensures.own
    ∙ (λ i. own ++ event number (c.mail_cell-cell.ensures i) (call.Mail (mail.Reply c.args.client (reply.Flush c.args.said))) (c.expect_replied.ensures i)
    ∷ []))

pub returns-clause-after : goal.returns-clause-after
returns-clause-after g c = λ lost knows.
    let F = g.S.LinkedShard.fits in
    let T = g.S.LinkedShard.stands in
    let A = g.S.LinkedShard.says in
    let shards = c.args.size.now.shards in
    let client = c.args.size.now.sessions + 1 in
    let cells = g.P.CellCaller.opening c.args.caller.now in
    let number = g.P.CellCaller.number c.args.caller.now in
    let own = g.P.CellCaller.own c.args.caller.now in
    let now = g.P.CellCaller.own c.call.new.self in
    let is =
    c.call.ensures.own
    ∙ (λ i. own ++ event number (c.mail_cell-cell.ensures i) (call.Mail (mail.Reply c.args.client (reply.Flush c.args.said))) (c.expect_replied.ensures i)
    ∷ [])
    in
    coe 1 0 (i. KnowsPart F T A (c.call.ensures.opening i) (c.call.ensures.number i) now (HasNoFlush lost))
    (after-reply F T A cells number client shards c.requires.flusher (2 + shards + shards) c.args.client c.args.said lost own now is
    (learns-reply F T A cells number client shards c.requires.flusher (2 + shards + shards) c.args.client c.args.said own now c.requires.mail is) knows)
