use Rattle.std.proofs.Common.{All, IsTrue, List, OnOk, map, sym, subst}
use Rattle.std.specs.List.{items_where_true}
use Rattle.std.proofs.lemmas.List.Elements.{filter_passes}
use Rattle.cube_values.specs.declared.row.CodedRow.{CodedRow}
use Rattle.agg_fold.specs.Standing.{Gains}
use Rattle.cube_values.specs.Spans.{span_has_row}
use Rattle.brick_store.specs.Whole.{row_with_coords}
use Rattle.brick_store.proofs.scan.fold_cut.Goals as goal

pub fold_chosen-requires-clause-inside : goal.fold_chosen-requires-clause-inside
fold_chosen-requires-clause-inside c =
    let test = span_has_row c.args.query.now.span in
    let rows = map (row_with_coords c.args.starts.now) c.args.columns.now.rows in
    subst (All (λ row. IsTrue (test row))) (sym c.in_ok-clear_outside.ensures.left) (filter_passes test (items_where_true c.args.bits.now.bits rows))

pub returns : goal.returns
returns c =
    let query = c.args.query.now in
    let shown : List CodedRow → Type 0 = λ rows. OnOk c.fold_chosen.result (Gains query rows c.args.into.now.groups c.fold_chosen.new.into.groups) in
    subst shown c.in_ok-clear_outside.ensures.left c.fold_chosen.ensures
