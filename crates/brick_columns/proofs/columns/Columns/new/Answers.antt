use Rattle.std.proofs.Common.{◌<◌, ◌^◌, All, length, ap, ◌∙◌, arith}
use Rattle.std.proofs.lemmas.List.{length-map}
use Rattle.cube_values.specs.Shapes.{IsSoundSize}
use Rattle.brick_columns.proofs.WholeRows.{made_rows, made_whole, ranges_small, widths_small, widths_few}
use Rattle.brick_columns.proofs.columns.Columns.new.Goals as goal

pub new-requires-clause-narrow : goal.new-requires-clause-narrow
new-requires-clause-narrow c =
    let sizes = c.as_slice.result.now in
    let sound : All IsSoundSize sizes = rw c.as_slice.ensures c.requires.sizes in
    let ranges = c.in_ok-ranges.ranges.items in
    let small : All (λ range. range < 2 ^ 32) ranges = rw c.in_ok-ranges.ensures (ranges_small sizes sound) in
    widths_small ranges c.in_ok-widths.widths.items small (rw c.as_slice-2.ensures.value at c.in_ok-widths.ensures)

pub new-requires-clause-few : goal.new-requires-clause-few
new-requires-clause-few c =
    let sizes = c.as_slice.result.now in
    let sound : All IsSoundSize sizes = rw c.as_slice.ensures c.requires.sizes in
    let ranges = c.in_ok-ranges.ranges.items in
    let small : All (λ range. range < 2 ^ 32) ranges = rw c.in_ok-ranges.ensures (ranges_small sizes sound) in
    let long = ap length c.in_ok-ranges.ensures ∙ length-map sizes (λ size. size.range) ∙ ap length c.as_slice.ensures in
    widths_few ranges c.in_ok-widths.widths.items small (rw c.as_slice-2.ensures.value at c.in_ok-widths.ensures) (omega (arith, long, c.requires.dims))

pub invariant_of-result : goal.invariant_of-result
invariant_of-result c =
    let ms = c.in_ok-empty_lists in
    made_whole c.in_ok-ranges.ranges c.new.result ms.field-0 (rw c.new.ensures (rw c.as_slice-2.ensures.value at c.in_ok-widths.ensures)) (ap (λ o. o.rows) c.new.ensures) ms.ensures.empty

pub returns-clause-rows : goal.returns-clause-rows
returns-clause-rows c = rw c.new.ensures (made_rows c.in_ok-empty_lists.field-0.items)
