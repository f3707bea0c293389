use Rattle.std.proofs.Common.{◌∙◌, ◌+◌, List, [], ◌∷◌, ◌++◌, ap, subst}
use Rattle.turn_board.specs.History.{event}
use Rattle.core_program.specs.AnswersOfCalls.{HaveAnswers}
use Rattle.core_cells.specs.declared.mail.MailCall.TheVariants as mail
use Rattle.core_program.specs.CoreFits.{CoreEntry}
use Rattle.cube_core.specs.declared.cell.CoreAnswer.{CoreAnswer}
use Rattle.cube_core.specs.declared.cell.CoreCall.TheVariants as call
use Rattle.shard_work.proofs.Served.{for-shard}
use Rattle.shard_work.proofs.jobs.take_job.Goals as goal

pub call-requires-clause-there : goal.call-requires-clause-there
call-requires-clause-there g c =
    let may =
    c.workers_serve_their_shards.ensures.may (g.P.CellCaller.opening c.args.caller.now) (g.P.CellCaller.number c.args.caller.now) c.args.number
    (2 + c.args.size.now.shards + c.args.number) (g.P.CellCaller.own c.args.caller.now) c.requires.worker
    in
    rw c.mail_cell-cell.ensures ((may.take c.requires.idle).there)

pub call-requires-clause-fits : goal.call-requires-clause-fits
call-requires-clause-fits g c =
    let may =
    c.workers_serve_their_shards.ensures.may (g.P.CellCaller.opening c.args.caller.now) (g.P.CellCaller.number c.args.caller.now) c.args.number
    (2 + c.args.size.now.shards + c.args.number) (g.P.CellCaller.own c.args.caller.now) c.requires.worker
    in
    rw c.mail_cell-cell.ensures (may.take c.requires.idle)

pub taken_in-requires : goal.taken_in-requires
taken_in-requires g c =
    let all =
    c.answers_fit_their_calls.ensures.all (g.P.CellCaller.opening c.call.new.self) (g.P.CellCaller.number c.call.new.self)
    (g.P.CellCaller.own c.call.new.self) c.call.ensures.history
    in
    c.answers_fit_their_calls.ensures.last (g.P.CellCaller.own c.args.caller.now)
    (event (g.P.CellCaller.number c.args.caller.now) c.mail_cell-cell.result (call.Mail mail.Take) c.call.result)
    (subst (λ (own : List CoreEntry). HaveAnswers own) c.call.ensures.own all)

pub returns-clause-work : goal.returns-clause-work
returns-clause-work g c =
    for-shard (g.P.CellCaller.own c.args.caller.now) (g.P.CellCaller.own c.call.new.self) (g.P.CellCaller.number c.args.caller.now)
    c.mail_cell-cell.result c.taken_in.result
    (c.call.ensures.own
    ∙ ap (λ (a : CoreAnswer). g.P.CellCaller.own c.args.caller.now
    ++ event (g.P.CellCaller.number c.args.caller.now) c.mail_cell-cell.result (call.Mail mail.Take) a ∷ []) c.taken_in.ensures)
    (λ client job is. c.workers_serve_their_shards.ensures.calls (g.P.CellCaller.opening c.call.new.self)
    (g.P.CellCaller.number c.call.new.self) c.args.number (2 + c.args.size.now.shards + c.args.number) (g.P.CellCaller.own c.call.new.self)
    client job (rw c.call.ensures.opening (rw c.call.ensures.number c.requires.worker)) c.call.ensures.history is)
