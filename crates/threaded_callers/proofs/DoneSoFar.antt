-- A task that was done so far, by the pass that it has.
use Rattle.std.proofs.Common.{◌≡◌, ℕ, List, [], ◌∷◌, Some, sym, ap, ◌∙◌}
use Rattle.board_callers.specs.Callers.{first_calls}
use Rattle.turn_board.specs.Hands.{first_number}
use Rattle.turn_board.specs.Passes.{callers_of, hands_of, opening_of, view_of}
use Rattle.turn_board.specs.declared.board.Board.{Board}
use Rattle.turn_board.specs.declared.cells.Cells.{Ghosts}
use Rattle.turn_board.specs.declared.history.Event.{Event}
use Rattle.turn_board.specs.declared.history.Hand.{Hand}
use Rattle.turn_board.specs.declared.pass.Pass.{Pass}
use Rattle.turn_board.specs.declared.view.PassView.{PassView}
use Rattle.threaded_callers.specs.Hands.{hand}
use Rattle.threaded_callers.specs.Tasks.{IsDoneFrom}
use Rattle.threaded_callers.specs.declared.task.Task.{Task}
use Rattle.threaded_callers.proofs.Tasks.{pass_of, view_is}

module _ {C T Q A W : Type 0} {g : Ghosts C T Q A} (may : W → ℕ → List T → ℕ → Type 0)
    (done : W → W → List T → ℕ → List (Event Q A) → Type 0) (b : Board C T Q A) (task : Task C W T Q A g)
    (p : Pass C T Q A g) (is : task.pass ≡ Some p) (number : ℕ) (first : W)
    (d : IsDoneFrom may done b number first task) where
  pub its-hands : hands_of p ≡ hand number d.own ∷ []
  its-hands = ap (λ (v : PassView T Q A). v.hands) (sym (view_is task p is)) ∙ d.held.hands_are

  its-number : number ≡ first_number (hands_of p)
  its-number = ap (λ (hs : List (Hand Q A)). first_number hs) (sym its-hands)

  its-calls : d.own ≡ first_calls (hands_of p)
  its-calls = ap (λ (hs : List (Hand Q A)). first_calls hs) (sym its-hands)

  its-opening : opening_of b ≡ (view_of p).opening
  its-opening = sym (pass_of b task p is d.held.of).opening

  -- So it is told of the pass.
  pub pass-may : may first (callers_of b) (view_of p).opening (first_number (hands_of p))
  pass-may = coe 0 1 (i. may first (callers_of b) (its-opening i) (its-number i)) d.may_begin

  pub pass-done : done first task.work (view_of p).opening (first_number (hands_of p)) (first_calls (hands_of p))
  pass-done = coe 0 1 (i. done first task.work (its-opening i) (its-number i) (its-calls i)) d.work

  -- And back, by this relation and by another.
  pub still-so : (relation : W → W → List T → ℕ → List (Event Q A) → Type 0) (after : W) (own : List (Event Q A))
      → relation first after (view_of p).opening (first_number (hands_of p)) own
      → relation first after (opening_of b) number own
  still-so relation after own work = coe 1 0 (i. relation first after (its-opening i) (its-number i) own) work

  pub still-done : (after : W) (own : List (Event Q A)) → done first after (view_of p).opening (first_number (hands_of p)) own
      → done first after (opening_of b) number own
  still-done after own work = still-so done after own work
