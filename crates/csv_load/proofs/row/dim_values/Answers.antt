use Rattle.std.proofs.Common.{ap, sym, ◌∙◌, arith}
use Rattle.csv.specs.Records.{fields_of}
use Rattle.csv_load.proofs.Judged.{text_at}
use Rattle.csv_load.proofs.row.dim_values.Goals as goal

pub dim_value-requires : goal.dim_value-requires
dim_value-requires c = λ text.
    let dim = c.index-dims-i.result in
    let within = c.dims-test.true in
    rw c.field.ensures (text_at c.args.dims.now (fields_of c.args.read.now) c.dims.i dim c.requires.texts within
    (omega (arith, within, c.requires.fields)) (ap (λ d. d.text) (sym c.index-dims-i.is) ∙ text))
