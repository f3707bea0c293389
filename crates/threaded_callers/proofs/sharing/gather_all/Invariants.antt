use Rattle.std.proofs.Common.{◌≡◌, ℕ, ◌<◌, get_or}
use Rattle.board_callers.specs.Callers.{other_hands}
use Rattle.turn_board.specs.Passes.{IsPassOf, hands_of, view_of}
use Rattle.threaded_callers.specs.Hands.{AreAmong, KeepsMain}
use Rattle.threaded_callers.specs.Tasks.{hands_in}
use Rattle.threaded_callers.proofs.Elements.{AreChanged}
use Rattle.threaded_callers.proofs.sharing.gather_all.Given as goal

abbrev pub invariant-loop-k : goal.invariant-loop-k
invariant-loop-k g l =
    IsPassOf l.board l.pass × KeepsMain (view_of l.initial.pass) (view_of l.pass)
    × AreChanged (λ j before after. after.work ≡ before.work) l.k l.initial.tasks l.tasks
    × ((j : ℕ) (d : _) → j < l.k → AreAmong (hands_in (get_or l.initial.tasks j d)) (other_hands (hands_of l.pass)))
