use Rattle.std.proofs.Common.{IsTrue, List, OnOk, map, sym, subst}
use Rattle.std.specs.List.{items_where_true}
use Rattle.cube_values.specs.declared.row.CodedRow.{CodedRow}
use Rattle.agg_fold.specs.Standing.{Gains}
use Rattle.agg_fold.proofs.Permuted.{filter_all}
use Rattle.brick_columns.proofs.KeptItems.{kept_all}
use Rattle.cube_values.specs.Spans.{span_has_row}
use Rattle.brick_store.specs.Whole.{row_with_coords}
use Rattle.brick_store.proofs.scan.fold_whole.Goals as goal

pub fold_chosen-requires-clause-inside : goal.fold_chosen-requires-clause-inside
fold_chosen-requires-clause-inside c =
    let test : CodedRow → Type 0 = λ row. IsTrue (span_has_row c.args.query.now.span row) in
    kept_all test c.args.bits.now.bits (map (row_with_coords c.args.starts.now) c.args.columns.now.rows) c.requires.all

pub returns : goal.returns
returns c =
    let query = c.args.query.now in
    let bits = c.args.bits.now.bits in
    let rows = map (row_with_coords c.args.starts.now) c.args.columns.now.rows in
    let test : CodedRow → Type 0 = λ row. IsTrue (span_has_row query.span row) in
    let shown : List CodedRow → Type 0 = λ rows. OnOk c.fold_chosen.result (Gains query rows c.args.into.now.groups c.fold_chosen.new.into.groups) in
    subst shown (sym (filter_all (span_has_row query.span) (items_where_true bits rows) (kept_all test bits rows c.requires.all))) c.fold_chosen.ensures
