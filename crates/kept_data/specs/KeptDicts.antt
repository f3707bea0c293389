-- The dictionaries of cubes with the names that are kept of them.
-- Source: Cubrick (VLDB 2016), dictionary encoding of text dimensions.
use Rattle.std.specs.Prelude.{ℕ, List, map, set}
use Rattle.std.specs.List.{zip}
use Rattle.cube_language.specs.declared.decl.Decl.{Decl}
use Rattle.cube_schema.specs.Schemas.{cube_of}
use Rattle.cube_rounds.specs.Demands.{DimNames}
use Rattle.names_dict.specs.Dictionaries.{Dictionary, new_dictionaries, dictionaries_of, dictionary_at}

-- A dictionary with these names in the place of its own.
abbrev pub with_names : Dictionary → List (List ℕ) → Dictionary
with_names d names = record d { names = names }

-- The dictionaries of a cube, each with the names of its dimension.
abbrev pub cube_dictionaries : Decl → DimNames → List Dictionary
cube_dictionaries cube lists = map (λ d. with_names d.0 d.1) (zip (new_dictionaries (cube_of cube)) lists)

-- Those of cubes, each with its names.
abbrev pub dictionaries_with_names : List Decl → List DimNames → List (List Dictionary)
dictionaries_with_names cubes names = map (λ c. cube_dictionaries c.0 c.1) (zip cubes names)

-- The dictionary of one dimension of a cube has these names; the others are as before.
abbrev pub with_names_at : List (List Dictionary) → ℕ → ℕ → List (List ℕ) → List (List Dictionary)
with_names_at cubes cube dim names =
    set cubes cube (set (dictionaries_of cubes cube) dim (with_names (dictionary_at cubes cube dim) names))
