use Rattle.std.proofs.Common.{List, OnOk, length, map, filter, subst, ap, ◌∙◌}
use Rattle.std.specs.List.{items_where_true}
use Rattle.std.proofs.lemmas.List.FromFn.{length-map-range_with_len}
use Rattle.cube_values.specs.declared.row.CodedRow.{CodedRow}
use Rattle.cube_values.specs.EpochsVector.{rows_of, sees_row}
use Rattle.agg_fold.specs.Standing.{Gains}
use Rattle.cube_values.specs.Spans.{span_has_row}
use Rattle.brick_store.specs.Whole.{row_with_coords}
use Rattle.brick_store.proofs.scratch.Scratch.fold_seen.Goals as goal

pub fold_rows-requires-clause-bits : goal.fold_rows-requires-clause-bits
fold_rows-requires-clause-bits c =
    let entries = c.args.epochs.now.entries in
    ap length c.in_ok-show_in.ensures ∙ length-map-range_with_len (sees_row c.args.snapshot.now entries) 0 (rows_of entries) ∙ c.requires.rows

pub returns : goal.returns
returns c =
    let query = c.args.query.now in
    let rows : List CodedRow = map (row_with_coords c.args.starts.now) c.args.columns.now.rows in
    let shown : List CodedRow → Type 0 = λ rows. OnOk c.fold_rows.result (Gains query rows c.args.into.now.groups c.fold_rows.new.into.groups) in
    subst shown (ap (λ bits. filter (span_has_row query.span) (items_where_true bits rows)) c.in_ok-show_in.ensures) c.fold_rows.ensures
