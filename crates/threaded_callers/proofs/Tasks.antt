-- Tasks, by the passes that they have.
use Rattle.std.proofs.Common.{◌≡◌, ◌≢◌, [], Option, Some, sym, ap, ◌∙◌, subst}
use Rattle.std.specs.Option.{option_map_or}
use Rattle.turn_board.specs.Passes.{IsPassOf, view_of}
use Rattle.turn_board.specs.Steps.{spent_view}
use Rattle.turn_board.specs.declared.board.Board.{Board}
use Rattle.turn_board.specs.declared.cells.Cells.{Ghosts}
use Rattle.turn_board.specs.declared.pass.Pass.{Pass}
use Rattle.turn_board.specs.declared.view.PassView.{PassView}
use Rattle.threaded_callers.specs.Tasks.{IsTaskOf, hands_in, view_in}
use Rattle.threaded_callers.specs.declared.task.Task.{Task}

module _ {C T Q A W : Type 0} {g : Ghosts C T Q A} where
  -- The pass that a task has is one of the board, and its view is that of the task.
  pub pass_of : (b : Board C T Q A) (task : Task C W T Q A g) (p : Pass C T Q A g) → task.pass ≡ Some p → IsTaskOf b task
      → IsPassOf b p
  pass_of b task p is of = subst (λ (x : Pass C T Q A g). IsPassOf b x)
      (ap (λ (o : Option (Pass C T Q A g)). option_map_or (λ x. x) o p) (sym of.is ∙ is)) of.of

  pub view_is : (task : Task C W T Q A g) (p : Pass C T Q A g) → task.pass ≡ Some p → view_in task ≡ view_of p
  view_is task p is = ap (λ (o : Option (Pass C T Q A g)). option_map_or (λ x. view_of x) o spent_view) is

  -- A pass has some caller.
  pub some_hands : (b : Board C T Q A) (task : Task C W T Q A g) → IsTaskOf b task → hands_in task ≢ []
  some_hands b task of none = of.of.some (sym (ap (λ (v : PassView T Q A). v.hands) (view_is task of.pass of.is)) ∙ none)
