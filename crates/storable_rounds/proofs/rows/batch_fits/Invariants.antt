use Rattle.std.proofs.Common.{ℕ, ◌<◌}
use Rattle.cube_values.specs.Batches.{coded_row_at}
use Rattle.following_rounds.specs.FollowingRounds.{HasStorableValues}
use Rattle.storable_rounds.proofs.rows.batch_fits.Given as goal

abbrev pub invariant-rows : goal.invariant-rows
invariant-rows l = (k : ℕ) → k < l.i → HasStorableValues (coded_row_at l.rows.rows k)
