-- The rows of a brick that are chosen by their bits, all of which a span has.
use Rattle.std.proofs.Common.{ℕ, ◌<◌, Bool, List, length, map, get_or, All, IsTrue, sym, subst, arith}
use Rattle.std.specs.List.{items_where_true}
use Rattle.std.proofs.lemmas.List.{get_or-map, length-map}
use Rattle.cube_values.specs.declared.query.BoundQuery.{BoundQuery}
use Rattle.cube_values.specs.declared.row.CodedRow.{CodedRow}
use Rattle.cube_values.specs.Queries.{IsSoundQuery}
use Rattle.brick_columns.specs.Rows.{BrickRows, IsBrickRow}
use Rattle.brick_columns.proofs.KeptItems.{kept_all}
use Rattle.brick_store.specs.Cells.{cell_count, CanFold, IsTakenRow, HasFitNumbers}
use Rattle.cube_values.specs.Spans.{span_has_row}
use Rattle.brick_store.specs.Whole.{HaveCoordsFrom, HasSmallCoords, row_with_coords}
use Rattle.brick_store.proofs.Changes.{rows_left}

pub taken_rows : (query : BoundQuery) (starts : List ℕ) (columns : BrickRows) (bits : List Bool) → HaveCoordsFrom starts columns → All (HasFitNumbers query.items) columns.rows
    → All (λ row. IsTrue (span_has_row query.span row)) (items_where_true bits (map (row_with_coords starts) columns.rows))
    → All (IsTakenRow columns.layout starts query) (items_where_true bits columns.rows)
taken_rows query starts columns bits readable fit inside i d h =
    let f = row_with_coords starts in
    let chosen = items_where_true bits columns.rows in
    let test : CodedRow → Type 0 = λ row. IsTrue (span_has_row query.span row) in
    let own : All test (map f chosen) = subst (All test) (sym (rows_left starts bits columns.rows)) inside in
    record {
      brick = kept_all (IsBrickRow columns.layout) bits columns.rows readable.fits i d h;
      small = kept_all (HasSmallCoords starts) bits columns.rows readable.small i d h;
      inside = subst test (get_or-map f chosen i d (f d) h) (own i (f d) (omega (arith, length-map chosen f)));
      fit = kept_all (HasFitNumbers query.items) bits columns.rows fit i d h;
    }

pub can_fold : (query : BoundQuery) (starts : List ℕ) (columns : BrickRows) → HaveCoordsFrom starts columns → IsSoundQuery query (length starts) columns.layout.metrics
    → All (λ dim. 0 < get_or columns.layout.ranges dim 0) query.group → cell_count columns.layout.ranges query.group < 4294967296 → All (HasFitNumbers query.items) columns.rows
    → CanFold query columns
can_fold query starts columns readable sound some few fit = record {
  sound = subst (λ (n : ℕ). IsSoundQuery query n columns.layout.metrics) readable.long sound;
  wide = readable.metrics;
  some = some;
  few = few;
  rows = readable.fits;
  fit = fit;
}
