use Rattle.std.proofs.Common.{◌≡◌}
use Rattle.store_cases.proofs.making.brick_of_steps.Given as goal

abbrev pub invariant-steps : goal.invariant-steps
invariant-steps g l = l.brick.home ≡ l.initial.brick.home
