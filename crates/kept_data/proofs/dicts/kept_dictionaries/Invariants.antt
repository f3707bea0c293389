use Rattle.std.proofs.Common.{◌≡◌, take}
use Rattle.kept_data.specs.KeptDicts.{dictionaries_with_names}
use Rattle.kept_data.proofs.dicts.kept_dictionaries.Given as goal

abbrev pub invariant-cubes : goal.invariant-cubes
invariant-cubes l = l.dicts ≡ take l.place (dictionaries_with_names l.cubes l.names)
