use Rattle.std.proofs.Common.{◌+◌, List, subst}
use Rattle.turn_board.specs.History.{event}
use Rattle.core_program.specs.AnswersOfCalls.{HaveAnswers}
use Rattle.core_cells.specs.declared.mail.MailCall.TheVariants as mail
use Rattle.core_program.specs.CoreFits.{CoreEntry}
use Rattle.cube_core.specs.declared.cell.CoreCall.TheVariants as call
use Rattle.cube_core.specs.declared.jobs.JobAnswer.TheVariants as reply
use Rattle.shard_work.proofs.jobs.reply_to.Goals as goal

pub call-requires-clause-there : goal.call-requires-clause-there
call-requires-clause-there g c =
    let may =
    c.workers_serve_their_shards.ensures.may (g.P.CellCaller.opening c.args.caller.now) (g.P.CellCaller.number c.args.caller.now) c.args.number
    (2 + c.args.size.now.shards + c.args.number) (g.P.CellCaller.own c.args.caller.now) c.requires.worker
    in
    rw c.mail_cell-cell.ensures ((may.reply c.args.client c.requires.done.0 c.args.answer c.requires.done.1).there)

pub call-requires-clause-fits : goal.call-requires-clause-fits
call-requires-clause-fits g c =
    let may =
    c.workers_serve_their_shards.ensures.may (g.P.CellCaller.opening c.args.caller.now) (g.P.CellCaller.number c.args.caller.now) c.args.number
    (2 + c.args.size.now.shards + c.args.number) (g.P.CellCaller.own c.args.caller.now) c.requires.worker
    in
    rw c.mail_cell-cell.ensures (may.reply c.args.client c.requires.done.0 c.args.answer c.requires.done.1)

pub expect_done-requires : goal.expect_done-requires
expect_done-requires g c =
    let all =
    c.answers_fit_their_calls.ensures.all (g.P.CellCaller.opening c.call.new.self) (g.P.CellCaller.number c.call.new.self)
    (g.P.CellCaller.own c.call.new.self) c.call.ensures.history
    in (
      c.args.client,
      reply.Shard c.args.answer,
      c.answers_fit_their_calls.ensures.last (g.P.CellCaller.own c.args.caller.now)
          (event (g.P.CellCaller.number c.args.caller.now) c.mail_cell-cell.result (call.Mail (mail.Reply c.args.client (reply.Shard c.args.answer))) c.call.result)
          (subst (λ (own : List CoreEntry). HaveAnswers own) c.call.ensures.own all),
    )
