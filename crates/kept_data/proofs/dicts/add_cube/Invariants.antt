use Rattle.std.proofs.Common.{◌≡◌, [], ◌∷◌, ◌++◌, take, drop}
use Rattle.cube_schema.specs.Schemas.{cube_of}
use Rattle.names_dict.specs.Dictionaries.{new_dictionaries}
use Rattle.kept_data.specs.KeptDicts.{cube_dictionaries}
use Rattle.kept_data.proofs.dicts.add_cube.Given as goal

abbrev pub invariant-dims : goal.invariant-dims
invariant-dims l =
    l.dicts ≡ l.fn.dicts ++ (take l.dim (cube_dictionaries l.schema l.lists) ++ drop l.dim (new_dictionaries (cube_of l.schema))) ∷ []
