use Rattle.std.proofs.Common.{◌≡◌, length}
use Rattle.cubrick.proofs.files.Given as goal

abbrev pub invariant-shelves : goal.invariant-shelves
invariant-shelves g l = record {
  as_many : length l.shelves.items ≡ l._number;
}
