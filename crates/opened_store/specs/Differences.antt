-- Where two lists of cubes differ.
-- Source: this project's own.
use Rattle.std.specs.Prelude.{◌≡◌, ◌≢◌, ℕ, List, take, slice_get}
use Rattle.cube_language.specs.declared.decl.Decl.{Decl}

-- Up to this place two lists are the same, and there they differ or one of them ends.
pub record DifferFirstAt (place : ℕ) (cubes others : List Decl) : Type 0 where
  pub before : take place cubes ≡ take place others
  pub there : slice_get cubes place ≢ slice_get others place
