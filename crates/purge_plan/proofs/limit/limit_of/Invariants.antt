use Rattle.std.proofs.Common.{◌≡◌, ℕ, take}
use Rattle.std.specs.List.{list_any}
use Rattle.epochs_vector.specs.Limits.{is_below}
use Rattle.purge_plan.specs.Purged.{is_removed_by}
use Rattle.purge_plan.proofs.limit.limit_of.Given as goal

abbrev pub invariant-loop-entry : goal.invariant-loop-entry
invariant-loop-entry l =
    (j i : ℕ) → list_any (is_removed_by l.epoch j i) (take l.entry-index l.entries) ≡ is_below l.limit j i
