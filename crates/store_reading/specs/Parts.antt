-- What a round adds to the names of cubes.
-- Source: this project's own.
use Rattle.std.specs.Prelude.{◌≡◌, List, length, map}
use Rattle.std.specs.List.{zip, AllZip}
use Rattle.cube_rounds.specs.declared.round.RoundCube.{RoundCube}
use Rattle.cube_rounds.specs.Demands.{DimNames, names_with}

-- The names of each cube with the new ones of its part of a round behind them.
abbrev pub all_names_with : List DimNames → List RoundCube → List DimNames
all_names_with names parts = map (λ c. names_with c.0 c.1.names) (zip names parts)

-- Each part of a round has as many lists of new names as its cube has lists of names.
abbrev pub HaveNameLists : List DimNames → List RoundCube → Type 0
HaveNameLists names parts = AllZip (λ lists part. length lists ≡ length part.names) names parts
