use Rattle.std.proofs.Common.{List, subst}
use Rattle.turn_board.specs.History.{event}
use Rattle.core_program.specs.AnswersOfCalls.{CoreAnswers, HaveAnswers}
use Rattle.core_program.specs.CoreFits.{CoreEntry}
use Rattle.cube_core.specs.declared.cell.CoreCall.TheVariants as call
use Rattle.core_program.proofs.calls.call_desk_cell.Goals as goal

pub call-requires-clause-there : goal.call-requires-clause-there
call-requires-clause-there g c =
    (c.clients_fit_by_what_they_know.ensures.desk (g.P.CellCaller.opening c.args.caller.now) (g.P.CellCaller.number c.args.caller.now) c.args.client
    (g.P.CellCaller.own c.args.caller.now) c.args.call c.requires.client c.requires.may).there

pub call-requires-clause-fits : goal.call-requires-clause-fits
call-requires-clause-fits g c =
    c.clients_fit_by_what_they_know.ensures.desk (g.P.CellCaller.opening c.args.caller.now) (g.P.CellCaller.number c.args.caller.now) c.args.client
    (g.P.CellCaller.own c.args.caller.now) c.args.call c.requires.client c.requires.may

pub desk_answer_in-requires : goal.desk_answer_in-requires
desk_answer_in-requires g c =
    let all =
    c.answers_fit_their_calls.ensures.all (g.P.CellCaller.opening c.call.new.self) (g.P.CellCaller.number c.call.new.self)
    (g.P.CellCaller.own c.call.new.self) c.call.ensures.history
    in (
      c.args.call,
      c.answers_fit_their_calls.ensures.last (g.P.CellCaller.own c.args.caller.now)
          (event (g.P.CellCaller.number c.args.caller.now) 0 (call.Desk c.args.call) c.call.result)
          (subst (λ (own : List CoreEntry). HaveAnswers own) c.call.ensures.own all),
    )

pub returns-clause-answers : goal.returns-clause-answers
returns-clause-answers g c =
    let all =
    c.answers_fit_their_calls.ensures.all (g.P.CellCaller.opening c.call.new.self) (g.P.CellCaller.number c.call.new.self)
    (g.P.CellCaller.own c.call.new.self) c.call.ensures.history
    in
    subst (λ a. CoreAnswers (call.Desk c.args.call) a) c.desk_answer_in.ensures
    (c.answers_fit_their_calls.ensures.last (g.P.CellCaller.own c.args.caller.now)
    (event (g.P.CellCaller.number c.args.caller.now) 0 (call.Desk c.args.call) c.call.result)
    (subst (λ (own : List CoreEntry). HaveAnswers own) c.call.ensures.own all))
