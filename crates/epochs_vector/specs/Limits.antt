-- How the greatest of some marks says which rows they hide.
use Rattle.std.specs.Prelude.{ℕ, Bool}
use Rattle.cube_values.specs.EpochsVector.{mark_hides}
use Rattle.epochs_vector.specs.declared.limit.Limit.{Limit}

-- Row i of epoch j is below a limit where a mark there hides it.
abbrev pub is_below : Limit → ℕ → ℕ → Bool
is_below limit j i = mark_hides limit.epoch limit.row j i
