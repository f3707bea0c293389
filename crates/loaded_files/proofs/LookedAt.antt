-- The records of a file at which a load looks.
use Rattle.std.proofs.Common.{ℕ, List, ap}
use Rattle.std.proofs.lemmas.Simd.{map-map}
use Rattle.cube_run.specs.LoadedRows.{judged_record, records_looked_at}
use Rattle.cube_run.specs.RunRecords.{Catalog, declaration_of, names_of_cube}
use Rattle.csv_load.specs.FileRecords.{records_of}
use Rattle.row_encoding.specs.CodedLoads.{record_result}
use Rattle.loaded_files.specs.LoadedFiles.{LooksAtRecords}

pub looks_at_records : LooksAtRecords
looks_at_records catalog cube reject bytes =
    let d = declaration_of catalog cube in
    ap (records_looked_at reject) (map-map (judged_record d (names_of_cube catalog cube)) (record_result d) (records_of bytes))
