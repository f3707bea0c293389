use borrow.Author.Count.{below_more}
use Rattle.std.proofs.Common.{◌≡◌, ◌<◌, length, get_or, sym, ap, ◌∙◌, subst, arith}
use Rattle.std.proofs.lemmas.List.{get_or_default}
use Rattle.board_callers.specs.Callers.{other_hands}
use Rattle.turn_board.specs.Passes.{hands_of, view_of}
use Rattle.threaded_callers.specs.Hands.{AreAmong}
use Rattle.threaded_callers.specs.Tasks.{IsTaskOf, hands_in}
use Rattle.threaded_callers.proofs.Elements.{change_next}
use Rattle.threaded_callers.proofs.Hands.{keeps_then}
use Rattle.threaded_callers.proofs.sharing.gather_all.Goals as goal

pub gather_task-requires-clause-task : goal.gather_task-requires-clause-task
gather_task-requires-clause-task g c =
    let k = c.loop-k.k in
    subst (λ t. IsTaskOf c.args.board.now t) (sym (c.loop-k.invariant.2.later k c.index-tasks-k.result (omega arith)))
    (c.requires.tasks k c.index-tasks-k.result (omega arith))

pub loop-k-preserved : goal.loop-k-preserved
loop-k-preserved g c =
    let k = c.loop-k.k in let x = c.index-tasks-k.result in let i = c.loop-k.invariant in let e = c.gather_task.ensures in
    let lt : k < length c.loop-k.tasks = omega arith in (
      e.pass,
      keeps_then (view_of c.args.pass.now) (view_of c.loop-k.pass) (view_of c.gather_task.new.pass) i.1 e.keeps,
      change_next (λ j before after. after.work ≡ before.work) k c.args.tasks.now c.loop-k.tasks x c.gather_task.new.task
          i.2 lt c.index-tasks-k.is (e.work ∙ ap (λ t. t.work) (sym c.index-tasks-k.is)),
      λ j d below. below_more
          (λ n. AreAmong (hands_in (get_or c.args.tasks.now n d)) (other_hands (hands_of c.gather_task.new.pass))) k
          (λ n u h among. e.keeps.others h (i.3 n d u h among))
          (subst (λ t. AreAmong (hands_in t) (other_hands (hands_of c.gather_task.new.pass)))
          (get_or_default c.loop-k.tasks k x d lt ∙ i.2.later k d (omega arith)) e.gathered)
          j (omega arith),
    )
