use Rattle.std.proofs.Common.{◌≡◌, ℕ, take}
use Rattle.std.specs.List.{list_any}
use Rattle.cube_values.specs.EpochsVector.{is_hidden_by}
use Rattle.epochs_vector.specs.Limits.{is_below}
use Rattle.epochs_vector.proofs.limit.limit_of.Given as goal

abbrev pub invariant-loop-entry : goal.invariant-loop-entry
invariant-loop-entry l =
    (j i : ℕ) → list_any (is_hidden_by l.snapshot j i) (take l.entry-index l.entries) ≡ is_below l.limit j i
