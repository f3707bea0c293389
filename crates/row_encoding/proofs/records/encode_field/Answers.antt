use Rattle.std.proofs.Common.{◌≡◌, true, false, ap, sym, ◌∙◌}
use Rattle.cube_language.specs.declared.decl.DimDecl.{DimDecl}
use Rattle.condition_spans.specs.Codes.{lists_at, texts_at}
use Rattle.row_encoding.specs.FinalCodes.{dim_at}
use Rattle.row_encoding.proofs.RecordFields.{read_final, read_inside, read_short, read_utf8}
use Rattle.row_encoding.proofs.RowCoords.{dim_read}
use Rattle.row_encoding.proofs.records.encode_field.Goals as goal

pub text-requires-clause-text : goal.text-requires-clause-text
text-requires-clause-text g c =
    let d = c.args.cube.now in
    let same = dim_read d c.decl.result.now c.as_slice-dims.result.now c.args.dim c.index-dims-dim.result c.as_slice-dims.ensures c.decl.ensures.decl c.requires.dim c.index-dims-dim.is in
    let is : (dim_at d.dims c.args.dim).text ≡ true = ap (λ (e : DimDecl). e.text) (sym same ∙ c.index-dims-dim.is) ∙ c.if-dims-dim.true in
    read_utf8 d c.args.load.now c.requires.row c.args.dim c.requires.dim is

pub encode_text-requires-clause-short : goal.encode_text-requires-clause-short
encode_text-requires-clause-short g c =
    let d = c.args.cube.now in
    let same = dim_read d c.decl.result.now c.as_slice-dims.result.now c.args.dim c.index-dims-dim.result c.as_slice-dims.ensures c.decl.ensures.decl c.requires.dim c.index-dims-dim.is in
    let is : (dim_at d.dims c.args.dim).text ≡ true = ap (λ (e : DimDecl). e.text) (sym same ∙ c.index-dims-dim.is) ∙ c.if-dims-dim.true in
    rw c.text.ensures (read_short d c.args.load.now c.requires.row c.args.dim c.requires.dim is)

pub returns-else-dims-dim-clause-coord : goal.returns-else-dims-dim-clause-coord
returns-else-dims-dim-clause-coord g c = λ names end.
    let d = c.args.cube.now in
    let same = dim_read d c.decl.result.now c.as_slice-dims.result.now c.args.dim c.index-dims-dim.result c.as_slice-dims.ensures c.decl.ensures.decl c.requires.dim c.index-dims-dim.is in
    let is : (dim_at d.dims c.args.dim).text ≡ false = ap (λ (e : DimDecl). e.text) (sym same ∙ c.index-dims-dim.is) ∙ c.if-dims-dim.false in
    read_final d c.args.load.now c.requires.row c.args.dim c.coord.result (texts_at (lists_at names c.args.place) c.args.dim) c.requires.dim is c.coord.ensures

pub returns-else-dims-dim-clause-inside : goal.returns-else-dims-dim-clause-inside
returns-else-dims-dim-clause-inside g c =
    let d = c.args.cube.now in
    let same = dim_read d c.decl.result.now c.as_slice-dims.result.now c.args.dim c.index-dims-dim.result c.as_slice-dims.ensures c.decl.ensures.decl c.requires.dim c.index-dims-dim.is in
    let is : (dim_at d.dims c.args.dim).text ≡ false = ap (λ (e : DimDecl). e.text) (sym same ∙ c.index-dims-dim.is) ∙ c.if-dims-dim.false in
    read_inside d c.args.load.now c.requires.row c.args.dim c.coord.result c.requires.dim is c.coord.ensures
