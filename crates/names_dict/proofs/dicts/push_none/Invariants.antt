use Rattle.std.proofs.Common.{◌≡◌, ◌+◌, [], ◌++◌, replicate, vec_len, vec_capacity}
use Rattle.names_dict.proofs.dicts.push_none.Given as goal

abbrev pub invariant-cubes : goal.invariant-cubes
invariant-cubes l =
    (l.cubes.items ≡ l.fn.cubes.items ++ replicate l._cube [])
    × (vec_len l.cubes ≡ vec_len l.fn.cubes + l._cube)
    × (vec_capacity l.cubes ≡ vec_capacity l.fn.cubes)
