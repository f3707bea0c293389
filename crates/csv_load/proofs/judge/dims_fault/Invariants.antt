use Rattle.std.proofs.Common.{◌≡◌, ◌++◌, drop}
use Rattle.csv.specs.Records.{fields_of}
use Rattle.csv_load.specs.FileRecords.{field_coords, dims_fault}
use Rattle.csv_load.proofs.judge.dims_fault.Given as goal

abbrev pub invariant-dims : goal.invariant-dims
invariant-dims l = record {
  fault : dims_fault (drop l.i l.dims) (drop l.i (fields_of l.read)) ≡ dims_fault l.dims (fields_of l.read);
  coords : l.coords.items ++ field_coords (drop l.i l.dims) (drop l.i (fields_of l.read))
      ≡ field_coords l.dims (fields_of l.read);
}
