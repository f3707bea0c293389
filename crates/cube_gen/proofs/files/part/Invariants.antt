use Rattle.std.proofs.Common.{◌≡◌}
use Rattle.cube_gen.specs.Generated.{number_at, part_so_far}
use Rattle.cube_gen.proofs.files.part.Given as goal

abbrev pub invariant-rows : goal.invariant-rows
invariant-rows l = record { number : l.x ≡ number_at l.n l.k; lines : l.out.items ≡ part_so_far l.n l.session l.k }
