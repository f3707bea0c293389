use Rattle.std.proofs.Common.{length}
use Rattle.cube_journal.specs.Legal.{CubesAllowAll}
use Rattle.plain_journal.proofs.cubes.is_legal_by_cubes.Given as goal

abbrev pub invariant-entries : goal.invariant-entries
invariant-entries l = record {
  forth : CubesAllowAll l.cubes l.names l.journal → CubesAllowAll l.there.items l.names_left l.left;
  back : CubesAllowAll l.there.items l.names_left l.left → CubesAllowAll l.cubes l.names l.journal;
}

abbrev pub decreases-entries : goal.decreases-entries
decreases-entries l = length l.left
