use Rattle.csv_load.specs.FileRecords.{dim_values}
use Rattle.row_encoding.proofs.CodedFronts.{IsCodedFront}
use Rattle.row_encoding.proofs.records.encode_fields.Given as goal

abbrev pub invariant-dims : goal.invariant-dims
invariant-dims g l =
    IsCodedFront g.E.Encoder.may_end g.E.Encoder.suits g.E.Encoder.has_name g.E.Encoder.keeps g.E.Encoder.has_given l.place l.cube (dim_values l.cube.dims l.load.fields) l.fn.encoder l.encoder l.coords.items l.i
