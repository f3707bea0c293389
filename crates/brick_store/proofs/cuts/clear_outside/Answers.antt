use Rattle.std.proofs.Common.{◌≡◌, ◌+◌, ◌<◌, ◌&&◌, false, List, [], length, map, take, get_or, sym, ap, ◌∙◌, arith, rules}
use Rattle.std.proofs.lemmas.List.{take_all, length-map}
use Rattle.std.proofs.lemmas.List.Elements.{All-get_or, length_all_zip}
use Rattle.cube_values.specs.declared.row.CodedRow.{CodedRow}
use Rattle.cube_values.specs.Spans.{part_has, parts_have, span_has_row}
use Rattle.brick_columns.specs.Rows.{BrickRow, IsBrickRow, row_at}
use Rattle.brick_store.specs.Cuts.{part_has_row}
use Rattle.brick_store.specs.Whole.{coords_at_offsets, row_with_coords}
use Rattle.brick_store.proofs.Coordinates.{coords_long, coord_here}
use Rattle.brick_store.proofs.Folds.{row_there}
use Rattle.brick_store.proofs.ClearedBits.{cleared_both, first_parts_have, left_items, parts_more}
use Rattle.brick_store.proofs.cuts.clear_outside.Goals as goal

pub dims-preserved : goal.dims-preserved
dims-preserved c =
    let l = c.dims in
    let parts = c.args.span.now.parts in
    let starts = c.args.starts.now in
    let columns = c.args.columns.now in
    let none : BrickRow = record { offsets = []; metrics = [] } in
    let start = get_or starts l.dim 0 in
    let part = c.index-parts-dim.result in
    let is : get_or parts l.dim part ≡ part = search rules in
    record {
      cleared =
          cleared_both (first_parts_have parts starts l.dim) columns.rows (part_has_row part start l.dim) (first_parts_have parts starts (l.dim + 1)) c.args.bits.now.bits l.bits.bits c.clear_dimension.new.bits.bits
          (λ i h.
          let offsets = (row_at columns.rows i).offsets in
          let fits = All-get_or (IsBrickRow columns.layout) columns.rows i none h c.requires.readable.fits in
          let wide = length_all_zip ◌<◌ offsets columns.layout.ranges fits.offsets in
          let here = coord_here starts offsets l.dim 0 0 (omega arith) (omega (arith, wide, c.requires.readable.long)) in
          parts_more parts (coords_at_offsets starts offsets) l.dim part (omega (arith, c.requires.parts)) (omega (arith, coords_long starts offsets, wide, c.requires.readable.long))
          ∙ (λ t. parts_have (take l.dim parts) (take l.dim (coords_at_offsets starts offsets)) && part_has (is t) (here t)))
          l.invariant.cleared c.clear_dimension.ensures;
      some = l.invariant.some;
    }

pub returns-clause-left : goal.returns-clause-left
returns-clause-left c =
    let l = c.dims in
    let parts = c.args.span.now.parts in
    let starts = c.args.starts.now in
    let columns = c.args.columns.now in
    let none : BrickRow = record { offsets = []; metrics = [] } in
    let d : CodedRow = record { coords = []; metrics = [] } in
    let all : List CodedRow = map (row_with_coords starts) columns.rows in
    let count = length-map columns.rows (row_with_coords starts) in
    let cleared = l.invariant.cleared in
    left_items (span_has_row c.args.span.now) d c.args.bits.now.bits l.bits.bits all (omega (arith, c.requires.bits, count)) (omega (arith, cleared.long, c.requires.bits, count))
    (λ i h.
    let within : i < length columns.rows = omega (arith, h, count) in
    let offsets = (row_at columns.rows i).offsets in
    let fits = All-get_or (IsBrickRow columns.layout) columns.rows i none within c.requires.readable.fits in
    let wide = length_all_zip ◌<◌ offsets columns.layout.ranges fits.offsets in
    let coords = coords_at_offsets starts offsets in
    let whole : first_parts_have parts starts l.dim (row_at columns.rows i) ≡ span_has_row c.args.span.now (row_with_coords starts (row_at columns.rows i)) =
    λ t. parts_have (take_all l.dim parts (omega (arith, c.requires.parts)) t) (take_all l.dim coords (omega (arith, coords_long starts offsets, wide, c.requires.readable.long)) t) in
    cleared.inside i (omega arith) within
    ∙ ap (λ b. get_or c.args.bits.now.bits i false && b) (whole ∙ sym (ap (span_has_row c.args.span.now) (row_there starts columns.rows i d within))))
