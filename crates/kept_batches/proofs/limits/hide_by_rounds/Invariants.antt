use Rattle.std.proofs.Common.{take}
use Rattle.kept_batches.specs.RoundsFit.{parts_of_rounds}
use Rattle.kept_batches.specs.Unhidden.{HideMore}
use Rattle.kept_batches.proofs.limits.hide_by_rounds.Given as goal

abbrev pub invariant-rounds : goal.invariant-rounds
invariant-rounds l =
    HideMore l.snapshot l.bricks (parts_of_rounds l.bricks.place (take l.round-index l.rounds)) l.fn.limits l.limits
