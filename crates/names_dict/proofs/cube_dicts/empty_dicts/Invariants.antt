use Rattle.std.proofs.Common.{◌≡◌, ◌++◌, drop}
use Rattle.names_dict.specs.Dictionaries.{empty_dictionaries}
use Rattle.names_dict.proofs.cube_dicts.empty_dicts.Given as goal

abbrev pub invariant-loop-dim : goal.invariant-loop-dim
invariant-loop-dim l = l.dims.items ++ empty_dictionaries (drop l.dim l.sizes) (drop l.dim l.texts) ≡ empty_dictionaries l.sizes l.texts
