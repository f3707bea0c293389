use Rattle.std.proofs.Common.{◌≡◌, ◌+◌, ◌<◌, ◌^◌, [], get_or, length, cond, set, false, sym, ap, subst, ◌∙◌, arith}
use Rattle.std.proofs.lemmas.List.Elements.{All-get_or, length_all_zip}
use Rattle.cube_values.specs.Spans.{part_has}
use Rattle.brick_columns.specs.Rows.{BrickRow, IsBrickRow, row_at}
use Rattle.brick_store.specs.Cuts.{AreClearedFrom, part_has_row}
use Rattle.brick_store.specs.Whole.{HasSmallCoords, coords_at_offsets}
use Rattle.brick_store.proofs.Coordinates.{coords_long, coord_here}
use Rattle.brick_store.proofs.ClearedBits.{cleared_none, cleared_more}
use Rattle.brick_store.proofs.cuts.clear_chunk.Goals as goal

pub overflow_add-start : goal.overflow_add-start
overflow_add-start c =
    let starts = c.args.starts.now in
    let columns = c.args.columns.now in
    let i = c.args.from + c.rows.k in
    let none : BrickRow = record { offsets = []; metrics = [] } in
    let offsets = (row_at columns.rows i).offsets in
    let within : i < length columns.rows = omega (arith, c.requires.rows, c.rows-test.true) in
    let fits = All-get_or (IsBrickRow columns.layout) columns.rows i none within c.requires.readable.fits in
    let small_there = All-get_or (HasSmallCoords starts) columns.rows i none within c.requires.readable.small in
    let wide = length_all_zip ◌<◌ offsets columns.layout.ranges fits.offsets in
    let here = coord_here starts offsets c.args.dim 0 0 (omega (arith, c.requires.dim)) (omega (arith, wide, c.requires.dim, c.requires.readable.long)) in
    let small = All-get_or (λ coord. coord < 2 ^ 32) (coords_at_offsets starts offsets) c.args.dim 0 (omega (arith, coords_long starts offsets, wide, c.requires.dim, c.requires.readable.long)) small_there in
    omega (arith, here, small, c.read_offsets.ensures c.rows.k c.rows-test.true)

pub rows-init : goal.rows-init
rows-init c =
    let test = part_has_row c.args.part.now (get_or c.args.starts.now c.args.dim 0) c.args.dim in
    let rows = c.args.columns.now.rows in
    let bits = c.args.bits.now.bits in
    let none : c.args.from ≡ c.args.from + 0 = omega arith in
    subst (λ n. AreClearedFrom test rows c.args.from n bits bits) none (cleared_none test rows c.args.from bits)

pub rows-preserved : goal.rows-preserved
rows-preserved c =
    let part = c.args.part.now in
    let start = get_or c.args.starts.now c.args.dim 0 in
    let test = part_has_row part start c.args.dim in
    let rows = c.args.columns.now.rows in
    let from = c.args.from in
    let i = from + c.rows.k in
    let old = c.args.bits.now.bits in
    let mid = c.rows.bits.bits in
    let more = cleared_more test rows from i old mid (omega arith) (omega (arith, c.rows.invariant.long, c.requires.bits, c.requires.rows, c.rows-test.true)) c.rows.invariant in
    let here : c.has.result ≡ test (row_at rows i) = c.has.ensures ∙ ap (λ o. part_has part (start + o)) (c.read_offsets.ensures c.rows.k c.rows-test.true) in
    let bits : c.keep_bit.new.bits.bits ≡ cond (test (row_at rows i)) mid (set mid i false) = c.keep_bit.ensures ∙ ap (λ b. cond b mid (set mid i false)) here in
    let next : i + 1 ≡ from + (c.rows.k + 1) = omega arith in
    subst (λ n. AreClearedFrom test rows from n old c.keep_bit.new.bits.bits) next (subst (λ bs. AreClearedFrom test rows from (i + 1) old bs) (sym bits) more)
