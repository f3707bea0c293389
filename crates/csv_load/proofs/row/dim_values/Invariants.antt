use Rattle.std.proofs.Common.{◌≡◌, ◌++◌, drop}
use Rattle.csv.specs.Records.{fields_of}
use Rattle.csv_load.specs.FileRecords.{dim_values}
use Rattle.csv_load.proofs.row.dim_values.Given as goal

abbrev pub invariant-dims : goal.invariant-dims
invariant-dims l = l.values ++ dim_values (drop l.i l.dims) (drop l.i (fields_of l.read))
    ≡ dim_values l.dims (fields_of l.read)
