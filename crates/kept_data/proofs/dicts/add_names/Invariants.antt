use Rattle.std.proofs.Common.{◌≡◌, take}
use Rattle.kept_data.specs.KeptDicts.{with_names_at}
use Rattle.kept_data.proofs.dicts.add_names.Given as goal

abbrev pub invariant-names : goal.invariant-names
invariant-names l = l.dicts ≡ with_names_at l.fn.dicts l.cube l.dim (take l.name-index l.names)
