-- The baton: the caller that has taken it runs, and a draw says whose it is next.
-- Source: A Method for Solving Synchronization Problems (Andrews, 1989), which passes a baton so; the numbers are PCG's
-- (O'Neill, 2014).
use Rattle.std.specs.Prelude.{◌≡◌, ℕ, ◌%◌, true, false, Option, Some, length, slice_get}
use Rattle.rand_pcg.specs.Pcg.{pcg32, multiplier_64}
use Rattle.rand_pcg.specs.Lcg.{Lcg, started, increment_of}
use Rattle.ordered_callers.specs.declared.baton.Baton.{Baton}

-- The numbers that a seed gives.
abbrev pub numbers_of_seed : ℕ → Lcg
numbers_of_seed seed = started 64 multiplier_64 seed (increment_of 64 1)

-- The place whose the baton is.
abbrev pub holder_of : Baton → Option ℕ
holder_of baton = slice_get baton.places.items baton.drawn

-- The caller of the place has taken the baton.
pub record HasTaken (place : ℕ) (baton : Baton) : Type 0 where
  pub holder : holder_of baton ≡ Some place
  pub taken : baton.taken ≡ true

-- The first of these numbers, by its remainder, says whose of the places the baton is. Nobody has taken it yet.
pub record IsDrawnBy (numbers : Lcg) (baton : Baton) : Type 0 where
  pub drawn : baton.drawn ≡ (pcg32 numbers).0 % length baton.places.items
  pub numbers_left : baton.numbers ≡ (pcg32 numbers).1
  pub untaken : baton.taken ≡ false
