use Rattle.std.proofs.Common.{◌≡◌, ◌++◌, drop}
use Rattle.csv.specs.Records.{fields_of}
use Rattle.csv_load.specs.FileRecords.{metrics_fault, field_numbers}
use Rattle.csv_load.proofs.judge.metrics_fault.Given as goal

abbrev pub invariant-names : goal.invariant-names
invariant-names l = record {
  fault : metrics_fault (drop l.i l.names) (drop l.i (drop l.first (fields_of l.read)))
      ≡ metrics_fault l.names (drop l.first (fields_of l.read));
  numbers : l.metrics.items ++ field_numbers (drop l.i (drop l.first (fields_of l.read)))
      ≡ field_numbers (drop l.first (fields_of l.read));
}
