use Rattle.threaded_callers.specs.Tasks.{GoesOn}
use Rattle.threaded_callers.proofs.Elements.{AreChanged}
use Rattle.threaded_callers.proofs.working.finish_all.Given as goal

abbrev pub invariant-loop-k : goal.invariant-loop-k
invariant-loop-k g l =
    AreChanged (λ j before after. GoesOn g.W.CallerWork.may_begin g.W.CallerWork.has_done l.board before after) l.k
    l.initial.tasks l.tasks
