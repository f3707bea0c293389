use Rattle.std.proofs.Common.{◌≡◌, length}
use Rattle.cube_schema.proofs.LineSteps.{Reads}
use Rattle.cube_schema.proofs.gather.gather_cubes.Given as goal

abbrev pub invariant-lines : goal.invariant-lines
invariant-lines l = record {
  reads : Reads l.text l.cubes.items l.current l.number;
  count : l.number ≡ length l.yielded;
}
