-- What holds of all that a file keeps.
-- Source: this project's own.
use Rattle.std.specs.Prelude.{◌≡◌, ℕ, ◌<◌, ◌≤◌, ◌^◌, length, All, slice_get, Some, None}
use Rattle.cube_language.specs.declared.decl.TheConstants.{MOST_CUBES}
use Rattle.cube_language.specs.declared.decl.Decl.{Decl}
use Rattle.cube_language.specs.Cubes.{first_repeated, IsStorable}
use Rattle.cube_rounds.specs.Demands.{DimNames, cube_names_of, HaveDims}
use Rattle.cube_rounds.specs.Stands.{Kept}
use Rattle.kept_data.specs.KeptNames.{HaveKeptNames}
use Rattle.kept_data.specs.KeptRounds.{RoundsLead, LieInCubes}

-- The cubes and the names: few cubes, of different names, each of which can be stored, those of the header among them,
-- and a list of names that fits for each dimension.
pub record IsSoundKept (kept : Kept) : Type 0 where
  pub few : length kept.cubes ≤ MOST_CUBES
  pub differ : first_repeated (cube_names_of kept.cubes) ≡ None
  pub storable : All IsStorable kept.cubes
  pub declared : kept.declared ≤ length kept.cubes
  pub lists : HaveDims kept.cubes kept.names
  pub names : HaveKeptNames kept.cubes kept.names

-- The rounds: they lead from 0 to the epoch, which is small, and what each has lies in the cubes.
pub record HasSoundRounds (kept : Kept) : Type 0 where
  pub lead : RoundsLead 0 kept.rounds kept.epoch
  pub small : kept.epoch < 2 ^ 63
  pub lie : All (LieInCubes kept.cubes kept.names) kept.rounds

-- A cube that is kept at a place, and the names of its dimensions.
pub record IsCubeAt (kept : Kept) (place : ℕ) (cube : Decl) (lists : DimNames) : Type 0 where
  pub is : slice_get kept.cubes place ≡ Some cube
  pub names : slice_get kept.names place ≡ Some lists
