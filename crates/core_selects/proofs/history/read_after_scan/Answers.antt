use Rattle.std.proofs.Common.{List, [], ◌∷◌, ◌++◌, ◌∙◌, ap, subst}
use Rattle.board_callers.specs.Callers.{HasHistoryOf}
use Rattle.core_cells.specs.declared.desk.DeskCall.TheVariants as desk
use Rattle.core_events.specs.Clients.{calls_of, state_from_calls}
use Rattle.core_program.specs.AnswersOfCalls.{HaveAnswers}
use Rattle.core_program.specs.CoreFits.{CoreEntry, FitsOwnCalls}
use Rattle.core_selects.proofs.GoneOn.{holding-counters}
use Rattle.cube_core.specs.CoreSteps.{CoreStep}
use Rattle.cube_core.specs.declared.cell.CoreAnswer.{CoreAnswer}
use Rattle.cube_core.specs.declared.cell.CoreCall.TheVariants as call
use Rattle.linked_shards.specs.CellShards.{CoreShardStands, CoreShardStep}
use Rattle.cube_core.proofs.Looking.{may-count}
use Rattle.shard_events.specs.ShardsInRuns.{FitsShard, ShardAnswerSays}
use Rattle.turn_board.specs.History.{event}
use Rattle.core_selects.proofs.history.read_after_scan.Goals as goal

pub call-requires-clause-there : goal.call-requires-clause-there
call-requires-clause-there g c =
    (c.clients_fit_by_what_they_know.ensures.desk (g.P.CellCaller.opening c.args.caller.now)
    (g.P.CellCaller.number c.args.caller.now) c.args.session (g.P.CellCaller.own c.args.caller.now) desk.Counters
    c.requires.client (λ o log run es later are.
    may-count o c.args.session (state_from_calls o c.args.session (calls_of c.args.session es)))).there

pub call-requires-clause-fits : goal.call-requires-clause-fits
call-requires-clause-fits g c =
    c.clients_fit_by_what_they_know.ensures.desk (g.P.CellCaller.opening c.args.caller.now)
    (g.P.CellCaller.number c.args.caller.now) c.args.session (g.P.CellCaller.own c.args.caller.now) desk.Counters
    c.requires.client (λ o log run es later are.
    may-count o c.args.session (state_from_calls o c.args.session (calls_of c.args.session es)))

pub counters_of-requires : goal.counters_of-requires
counters_of-requires g c =
    let all =
    c.answers_fit_their_calls.ensures.all (g.P.CellCaller.opening c.call.new.self) (g.P.CellCaller.number c.call.new.self)
    (g.P.CellCaller.own c.call.new.self) c.call.ensures.history
    in
    c.answers_fit_their_calls.ensures.last (g.P.CellCaller.own c.args.caller.now)
    (event (g.P.CellCaller.number c.args.caller.now) 0 (call.Desk desk.Counters) c.call.result)
    (subst (λ (own : List CoreEntry). HaveAnswers own) c.call.ensures.own all)

pub returns-clause-holding : goal.returns-clause-holding
returns-clause-holding g c =
    let own = g.P.CellCaller.own c.args.caller.now in
    let number = g.P.CellCaller.number c.args.caller.now in
    holding-counters (g.P.CellCaller.opening c.args.caller.now) number c.args.session c.requires.client own
    (g.P.CellCaller.own c.call.new.self) c.requires.session c.counters_of.result
    (c.call.ensures.own
    ∙ ap (λ (a : CoreAnswer). own ++ event number 0 (call.Desk desk.Counters) a ∷ []) c.counters_of.ensures)

pub returns-clause-history : goal.returns-clause-history
returns-clause-history g c =
    coe 0 1 (i. HasHistoryOf (CoreStep CoreShardStep) (FitsOwnCalls FitsShard CoreShardStands ShardAnswerSays)
    (c.call.ensures.opening i) (c.call.ensures.number i) (g.P.CellCaller.own c.call.new.self)) c.call.ensures.history
