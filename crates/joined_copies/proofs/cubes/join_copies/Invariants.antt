use Rattle.std.specs.Prelude.{vec_capacity}
use Rattle.joined_copies.proofs.CopiesInTurn.{IsJoining}
use Rattle.joined_copies.proofs.cubes.join_copies.Given as goal

abbrev pub invariant-cubes : goal.invariant-cubes
invariant-cubes l = IsJoining l.fn.copies.items l.cubes l.counter l.left.items l.lists.items (vec_capacity l.lists)
