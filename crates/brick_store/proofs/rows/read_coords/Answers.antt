use Rattle.std.proofs.Common.{◌+◌, ◌<◌, ◌^◌, [], get_or, sym, ap, ◌∙◌, arith}
use Rattle.std.proofs.lemmas.List.{length-set, take_all}
use Rattle.std.proofs.lemmas.List.Elements.{All-get_or, length_all_zip}
use Rattle.brick_columns.specs.Rows.{BrickRow, IsBrickRow, row_at}
use Rattle.brick_store.specs.Whole.{HasSmallCoords, coords_at_offsets}
use Rattle.brick_store.proofs.Coordinates.{coords_long, coord_here, written_more}
use Rattle.brick_store.proofs.rows.read_coords.Goals as goal

pub overflow_add-coords : goal.overflow_add-coords
overflow_add-coords c =
    let l = c.dims in
    let starts = c.args.starts.now in
    let row = row_at c.args.columns.now.rows c.args.row in
    let offsets = row.offsets in
    let none : BrickRow = record { offsets = []; metrics = [] } in
    let fits = All-get_or (IsBrickRow c.args.columns.now.layout) c.args.columns.now.rows c.args.row none (omega arith) c.requires.readable.fits in
    let small_there = All-get_or (HasSmallCoords starts) c.args.columns.now.rows c.args.row none (omega arith) c.requires.readable.small in
    let wide = length_all_zip ◌<◌ offsets c.args.columns.now.layout.ranges fits.offsets in
    let here = coord_here starts offsets l.dim 0 0 (omega arith) (omega (arith, wide, c.requires.readable.long)) in
    let small = All-get_or (λ coord. coord < 2 ^ 32) (coords_at_offsets starts offsets) l.dim 0 (omega (arith, coords_long starts offsets, wide, c.requires.readable.long)) small_there in
    omega (arith, here, small, c.offset.ensures)

pub dims-preserved : goal.dims-preserved
dims-preserved c =
    let l = c.dims in
    let starts = c.args.starts.now in
    let row = row_at c.args.columns.now.rows c.args.row in
    let offsets = row.offsets in
    let none : BrickRow = record { offsets = []; metrics = [] } in
    let fits = All-get_or (IsBrickRow c.args.columns.now.layout) c.args.columns.now.rows c.args.row none (omega arith) c.requires.readable.fits in
    let small_there = All-get_or (HasSmallCoords starts) c.args.columns.now.rows c.args.row none (omega arith) c.requires.readable.small in
    let wide = length_all_zip ◌<◌ offsets c.args.columns.now.layout.ranges fits.offsets in
    let here = coord_here starts offsets l.dim 0 0 (omega arith) (omega (arith, wide, c.requires.readable.long)) in
    let value = ap (λ o. get_or starts l.dim 0 + o) c.offset.ensures ∙ sym here in
    record {
      front = written_more l.coords (coords_at_offsets starts offsets) l.dim 0 (get_or starts l.dim 0 + c.offset.result) (omega (arith, l.invariant.long)) (omega (arith, coords_long starts offsets, wide, c.requires.readable.long)) l.invariant.front value;
      long = length-set l.coords l.dim (get_or starts l.dim 0 + c.offset.result) ∙ l.invariant.long;
    }

pub returns-clause-value : goal.returns-clause-value
returns-clause-value c =
    let l = c.dims in
    let starts = c.args.starts.now in
    let offsets = (row_at c.args.columns.now.rows c.args.row).offsets in
    sym (take_all l.dim l.coords (omega (arith, l.invariant.long))) ∙ l.invariant.front ∙ take_all l.dim (coords_at_offsets starts offsets) (omega (arith, coords_long starts offsets))
