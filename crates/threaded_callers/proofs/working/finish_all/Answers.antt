use Rattle.std.proofs.Common.{◌<◌, length, sym, subst, arith}
use Rattle.threaded_callers.specs.Tasks.{GoesOn, IsDoneSoFar}
use Rattle.threaded_callers.proofs.Elements.{change_next}
use Rattle.threaded_callers.proofs.working.finish_all.Goals as goal

pub finish_task-requires : goal.finish_task-requires
finish_task-requires g c =
    let k = c.loop-k.k in
    record {
      done =
          subst (λ t. IsDoneSoFar g.W.CallerWork.may_begin g.W.CallerWork.has_done c.args.board.now t)
          (sym (c.loop-k.invariant.later k c.index-tasks-k.result (omega arith)))
          (c.requires.done k c.index-tasks-k.result (omega arith));
    }

pub loop-k-preserved : goal.loop-k-preserved
loop-k-preserved g c =
    let k = c.loop-k.k in let x = c.index-tasks-k.result in
    let lt : k < length c.loop-k.tasks = omega arith in
    change_next
    (λ j before after. GoesOn g.W.CallerWork.may_begin g.W.CallerWork.has_done c.args.board.now before after) k
    c.args.tasks.now c.loop-k.tasks x c.finish_task.new.task c.loop-k.invariant lt c.index-tasks-k.is
    (subst (λ t. GoesOn g.W.CallerWork.may_begin g.W.CallerWork.has_done c.args.board.now t c.finish_task.new.task)
    (sym c.index-tasks-k.is) c.finish_task.ensures)
