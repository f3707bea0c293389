use Rattle.std.proofs.Common.{◌+◌, List, subst}
use Rattle.turn_board.specs.History.{event}
use Rattle.core_program.specs.AnswersOfCalls.{HaveAnswers}
use Rattle.core_program.specs.CoreFits.{CoreEntry}
use Rattle.cube_core.specs.declared.cell.CoreCall.TheVariants as call
use Rattle.shard_work.proofs.jobs.make_call.Goals as goal

pub call-requires-clause-there : goal.call-requires-clause-there
call-requires-clause-there g c =
    let may =
    c.workers_serve_their_shards.ensures.may (g.P.CellCaller.opening c.args.caller.now) (g.P.CellCaller.number c.args.caller.now) c.args.number
    (2 + c.args.size.now.shards + c.args.number) (g.P.CellCaller.own c.args.caller.now) c.requires.worker
    in
    let taken = c.requires.taken in
    rw c.shard_cell-cell.ensures ((may.serve taken.0 taken.1 c.args.call taken.2 taken.3).there)

pub call-requires-clause-fits : goal.call-requires-clause-fits
call-requires-clause-fits g c =
    let may =
    c.workers_serve_their_shards.ensures.may (g.P.CellCaller.opening c.args.caller.now) (g.P.CellCaller.number c.args.caller.now) c.args.number
    (2 + c.args.size.now.shards + c.args.number) (g.P.CellCaller.own c.args.caller.now) c.requires.worker
    in
    let taken = c.requires.taken in
    rw c.shard_cell-cell.ensures (may.serve taken.0 taken.1 c.args.call taken.2 taken.3)

pub shard_answer_in-requires : goal.shard_answer_in-requires
shard_answer_in-requires g c =
    let all =
    c.answers_fit_their_calls.ensures.all (g.P.CellCaller.opening c.call.new.self) (g.P.CellCaller.number c.call.new.self)
    (g.P.CellCaller.own c.call.new.self) c.call.ensures.history
    in (
      c.args.call,
      c.answers_fit_their_calls.ensures.last (g.P.CellCaller.own c.args.caller.now)
          (event (g.P.CellCaller.number c.args.caller.now) c.shard_cell-cell.result (call.Shard c.args.call) c.call.result)
          (subst (λ (own : List CoreEntry). HaveAnswers own) c.call.ensures.own all),
    )
