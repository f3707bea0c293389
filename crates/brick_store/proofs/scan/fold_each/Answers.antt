use Rattle.std.proofs.Common.{IsTrue, [], length, map, take, sym, subst, ◌∙◌, arith}
use Rattle.std.specs.List.{items_where_true}
use Rattle.std.proofs.lemmas.List.{length-map, take_all}
use Rattle.cube_values.specs.declared.row.CodedRow.{CodedRow}
use Rattle.cube_values.specs.Spans.{span_has_row}
use Rattle.brick_store.specs.Whole.{row_with_coords}
use Rattle.brick_store.proofs.Folds.{gains_none, gains_same, gains_row, row_there, chosen_has, chosen_short, room_after}
use Rattle.brick_store.proofs.scan.fold_each.Goals as goal

pub fold_row-requires-clause-inside : goal.fold_row-requires-clause-inside
fold_row-requires-clause-inside c = λ yes.
    let d : CodedRow = record { coords = []; metrics = [] } in
    let rows = c.args.columns.now.rows in
    let all = map (row_with_coords c.args.starts.now) rows in
    let test : CodedRow → Type 0 = λ row. IsTrue (span_has_row c.args.query.now.span row) in
    subst test (row_there c.args.starts.now rows c.rows.row d (omega arith))
    (chosen_has test c.args.bits.now.bits all c.rows.row d (sym c.get.ensures ∙ yes) (omega (arith, length-map rows (row_with_coords c.args.starts.now))) c.requires.inside)

pub fold_row-requires-clause-room : goal.fold_row-requires-clause-room
fold_row-requires-clause-room c =
    let l = c.rows in
    let all = map (row_with_coords c.args.starts.now) c.args.columns.now.rows in
    let short = chosen_short c.args.bits.now.bits all l.row (omega (arith, length-map c.args.columns.now.rows (row_with_coords c.args.starts.now))) in
    room_after c.args.query.now (length c.args.columns.now.rows) 1 (items_where_true (take l.row c.args.bits.now.bits) (take l.row all)) c.args.into.now.groups l.into.groups (omega (arith, short)) c.requires.room l.invariant.gains

pub rows-init : goal.rows-init
rows-init c = record {
  gains = gains_none c.args.query.now c.args.into.now.groups;
  coords = omega (arith, c.in_ok-resize.ensures.len);
  metrics = omega (arith, c.in_ok-resize-2.ensures.len, c.width.ensures);
}

pub rows-preserved : goal.rows-preserved
rows-preserved c =
    let l = c.rows in
    record {
      gains = gains_row c.args.query.now c.args.starts.now c.args.bits.now.bits c.args.columns.now.rows l.row c.get.result c.args.into.now.groups l.into.groups c.fold_row.new.into.groups (omega arith) (omega arith) c.get.ensures l.invariant.gains c.in_ok-fold_row.ensures.gains;
      coords = l.invariant.coords;
      metrics = l.invariant.metrics;
    }

pub returns : goal.returns
returns c =
    let l = c.rows in
    let query = c.args.query.now in
    let bits = c.args.bits.now.bits in
    let all = map (row_with_coords c.args.starts.now) c.args.columns.now.rows in
    let long = length-map c.args.columns.now.rows (row_with_coords c.args.starts.now) in
    gains_same query _ _ c.args.into.now.groups l.into.groups
    (λ t. items_where_true (take_all l.row bits (omega arith) t) (take_all l.row all (omega (arith, long)) t))
    l.invariant.gains
