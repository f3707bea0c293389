use Rattle.std.proofs.Common.{◌≡◌, ℕ, ◌==◌, ◌&&◌, ◌||◌, take}
use Rattle.std.specs.List.{list_any}
use Rattle.cube_values.specs.EpochsVector.{is_hidden_by}
use Rattle.epochs_vector.specs.Limits.{is_below}
use Rattle.kept_batches.specs.Unhidden.{limit_in}
use Rattle.kept_batches.proofs.limits.hide_by_part.Given as goal

abbrev pub invariant-loop-entry : goal.invariant-loop-entry
invariant-loop-entry l =
    (other j i : ℕ) → is_below (limit_in l.limits other) j i
    ≡ (is_below (limit_in l.fn.limits other) j i
    || (l.part.brick == other && list_any (is_hidden_by l.snapshot j i) (take l.entry-index l.entries)))
