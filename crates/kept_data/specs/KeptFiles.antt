-- What the file of a store keeps.
-- Source: this project's own.
use Rattle.std.specs.Prelude.{◌≡◌, List}
use Rattle.cube_language.specs.declared.decl.Decl.{Decl}
use Rattle.cube_language.specs.Cubes.{cubes_text}
use Rattle.cube_language.specs.CubesText.{Declares}
use Rattle.cube_rounds.specs.declared.round.Round.{Round}
use Rattle.cube_rounds.specs.Stands.{Kept, kept_of_cubes, kept_with_all, RoundsMayFollow}

-- This is kept by a file that has the text of some cubes in its header, and rounds behind it that follow each other.
pub record IsKeptByFile (kept : Kept) : Type 0 where
  pub cubes : List Decl
  pub declares : Declares (cubes_text cubes) cubes
  pub rounds : List Round
  pub chain : RoundsMayFollow (kept_of_cubes cubes) rounds
  pub are : kept ≡ kept_with_all (kept_of_cubes cubes) rounds
