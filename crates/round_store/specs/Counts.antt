-- How many names cubes have.
-- Source: this project's own.
use Rattle.std.specs.Prelude.{ℕ, ◌+◌, List, [], ◌∷◌, ◌++◌, length, map}
use Rattle.cube_language.specs.declared.decl.Decl.{Decl}
use Rattle.cube_rounds.specs.declared.round.RoundCube.{RoundCube}
use Rattle.cube_rounds.specs.declared.round.Round.{Round}
use Rattle.cube_rounds.specs.Demands.{DimNames}

-- For each cube and each of its dimensions how many names there are.
abbrev pub counts_of : List DimNames → List (List ℕ)
counts_of = map (map length)

-- Each number with the length of the list at its place more. Where a number is missing, it is 0.
abbrev pub row_with : List ℕ → DimNames → List ℕ
row_with counts [] = []
row_with [] (list ∷ lists) = length list ∷ row_with [] lists
row_with (count ∷ counts) (list ∷ lists) = (count + length list) ∷ row_with counts lists

-- Numbers of names with those of a round more. The cubes that have none yet come last.
abbrev pub counts_with : List (List ℕ) → List RoundCube → List (List ℕ)
counts_with counts [] = []
counts_with [] (part ∷ parts) = row_with [] part.names ∷ counts_with [] parts
counts_with (row ∷ counts) (part ∷ parts) = row_with row part.names ∷ counts_with counts parts

-- Cubes, and for each of them how many names each dimension has.
pub record CubeCounts : Type 0 where
  pub cubes : List Decl
  pub counts : List (List ℕ)

-- Cubes with so many names, and a round more.
abbrev pub data_with : List Decl → List (List ℕ) → Round → CubeCounts
data_with cubes counts round = record { cubes = cubes ++ round.made; counts = counts_with counts round.cubes }
