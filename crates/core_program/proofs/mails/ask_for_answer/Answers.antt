use Rattle.std.proofs.Common.{◌+◌, List, subst}
use Rattle.turn_board.specs.History.{event}
use Rattle.core_program.specs.AnswersOfCalls.{HaveAnswers}
use Rattle.core_cells.specs.declared.mail.MailCall.TheVariants as mail
use Rattle.core_program.specs.CoreFits.{CoreEntry}
use Rattle.cube_core.specs.declared.cell.CoreCall.TheVariants as call
use Rattle.core_program.proofs.mails.ask_for_answer.Goals as goal

pub call-requires-clause-there : goal.call-requires-clause-there
call-requires-clause-there g c =
    rw c.mail_cell-cell.ensures ((c.clients_fit_by_what_they_know.ensures.fetch (g.P.CellCaller.opening c.args.caller.now) (g.P.CellCaller.number c.args.caller.now) c.args.client c.args.number (2 + c.args.size.now.shards + c.args.number) (g.P.CellCaller.own c.args.caller.now) c.requires.client c.requires.mail c.requires.serves c.requires.may).there)

pub call-requires-clause-fits : goal.call-requires-clause-fits
call-requires-clause-fits g c =
    rw c.mail_cell-cell.ensures (c.clients_fit_by_what_they_know.ensures.fetch (g.P.CellCaller.opening c.args.caller.now) (g.P.CellCaller.number c.args.caller.now) c.args.client c.args.number (2 + c.args.size.now.shards + c.args.number) (g.P.CellCaller.own c.args.caller.now) c.requires.client c.requires.mail c.requires.serves c.requires.may)

pub fetched_in-requires : goal.fetched_in-requires
fetched_in-requires g c =
    let all =
    c.answers_fit_their_calls.ensures.all (g.P.CellCaller.opening c.call.new.self) (g.P.CellCaller.number c.call.new.self)
    (g.P.CellCaller.own c.call.new.self) c.call.ensures.history
    in (
      c.args.client,
      c.answers_fit_their_calls.ensures.last (g.P.CellCaller.own c.args.caller.now)
          (event (g.P.CellCaller.number c.args.caller.now) c.mail_cell-cell.result (call.Mail (mail.Fetch c.args.client)) c.call.result)
          (subst (λ (own : List CoreEntry). HaveAnswers own) c.call.ensures.own all),
    )
