use Rattle.std.proofs.Common.{◌≡◌, take, drop}
use Rattle.turn_board.specs.Passes.{IsPassOf, hands_of}
use Rattle.threaded_callers.specs.Tasks.{HasHands}
use Rattle.threaded_callers.proofs.Elements.{AreChanged}
use Rattle.threaded_callers.proofs.sharing.share_out.Given as goal

abbrev pub invariant-loop-k : goal.invariant-loop-k
invariant-loop-k g l =
    IsPassOf l.board l.rest × (hands_of l.rest ≡ drop l.k (hands_of l.fn.pass))
    × AreChanged (λ j before after. (after.work ≡ before.work) × HasHands l.board (take 1 (drop j (hands_of l.fn.pass))) after)
    l.k l.initial.tasks l.tasks
