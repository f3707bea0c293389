use Rattle.std.proofs.Common.{◌+◌, ◌/◌, ◌%◌, ◌<◌, set, get_or, sym, subst, arith}
use Rattle.brick_store.proofs.CellKeys.{IsKeySoFar, digit_below_range, coord_small, key_more}
use Rattle.brick_store.proofs.cells.write_key.Goals as goal

pub nonzero_rem-key : goal.nonzero_rem-key
nonzero_rem-key c =
    let (row, r) = c.requires.some in
    let l = c.dims in
    omega (arith, digit_below_range c.args.columns.now.layout c.args.starts.now c.args.group.now c.args.cell l.left l.key l.i row c.requires.starts c.requires.dims (omega arith) r (l.invariant row r), c.range-range.ensures)

pub nonzero_div-left : goal.nonzero_div-left
nonzero_div-left c =
    let (row, r) = c.requires.some in
    let l = c.dims in
    omega (arith, digit_below_range c.args.columns.now.layout c.args.starts.now c.args.group.now c.args.cell l.left l.key l.i row c.requires.starts c.requires.dims (omega arith) r (l.invariant row r), c.range-range.ensures)

pub overflow_add-key : goal.overflow_add-key
overflow_add-key c =
    let (row, r) = c.requires.some in
    let l = c.dims in
    let d = get_or c.args.group.now l.i 0 in
    let small = coord_small c.args.columns.now.layout c.args.starts.now c.args.group.now c.args.cell l.left l.key l.i row c.requires.starts c.requires.dims (omega arith) r (l.invariant row r) in
    let here = subst (λ q. get_or c.args.starts.now d 0 + l.left % q < 4294967296) (sym c.range-range.ensures) small in
    omega (arith, here)

pub dims-preserved : goal.dims-preserved
dims-preserved c = λ row r.
    let l = c.dims in
    let layout = c.args.columns.now.layout in
    let starts = c.args.starts.now in
    let group = c.args.group.now in
    let d = get_or group l.i 0 in
    subst (λ q. IsKeySoFar layout starts group c.args.cell (l.left / q) (set l.key l.i (get_or starts d 0 + l.left % q)) (l.i + 1) row) (sym c.range-range.ensures)
    (key_more layout starts group c.args.cell l.left l.key l.i row c.requires.starts c.requires.dims (omega arith) r (l.invariant row r) (omega arith))
