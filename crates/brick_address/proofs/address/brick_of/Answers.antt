use Rattle.std.proofs.Common.{arith, refl}
use Rattle.std.proofs.lemmas.Slice.{first_rest}
use Rattle.brick_address.proofs.Bricks.{brick_below}
use Rattle.brick_address.proofs.Steps.{first_size, first_coord, no_coords, no_sizes, next_number}
use Rattle.brick_address.proofs.address.brick_of.Goals as goal

pub overflow_mul-brick : goal.overflow_mul-brick
overflow_mul-brick c =
    let e = first_rest c.dims.sizes_left.now (record { cardinality = 0; range = 0 }) c.in-len1-up.len_at_least in
    let x = first_rest c.dims.coords_left.now 0 c.in-len1-up-coords_left.len_at_least in
    let f = first_size _ _ _ e c.dims.invariant.1 in
    let g = first_coord _ _ _ _ _ _ e x c.dims.invariant.2 in
    let n = next_number _ _ _ _ _ _ _ _ _ _ c.dims.invariant.0 f.bricks g.brick c.ranges_of.ensures refl f.some in
    let t = brick_below _ _ c.requires.shape.sizes c.requires.coords in
    omega arith

pub overflow_add-brick : goal.overflow_add-brick
overflow_add-brick c =
    let e = first_rest c.dims.sizes_left.now (record { cardinality = 0; range = 0 }) c.in-len1-up.len_at_least in
    let x = first_rest c.dims.coords_left.now 0 c.in-len1-up-coords_left.len_at_least in
    let f = first_size _ _ _ e c.dims.invariant.1 in
    let g = first_coord _ _ _ _ _ _ e x c.dims.invariant.2 in
    let n = next_number _ _ _ _ _ _ _ _ _ _ c.dims.invariant.0 f.bricks g.brick c.ranges_of.ensures c.from.ensures f.some in
    let t = brick_below _ _ c.requires.shape.sizes c.requires.coords in
    omega arith

pub dims-preserved : goal.dims-preserved
dims-preserved c =
    let e = first_rest c.dims.sizes_left.now (record { cardinality = 0; range = 0 }) c.in-len1-up.len_at_least in
    let x = first_rest c.dims.coords_left.now 0 c.in-len1-up-coords_left.len_at_least in
    let f = first_size _ _ _ e c.dims.invariant.1 in
    let g = first_coord _ _ _ _ _ _ e x c.dims.invariant.2 in
    let n = next_number _ _ _ _ _ _ _ _ _ _ c.dims.invariant.0 f.bricks g.brick c.ranges_of.ensures c.from.ensures f.some in
    (n.0, f.others, g.others)

pub returns-clause-within : goal.returns-clause-within
returns-clause-within c =
    let t = brick_below _ _ c.requires.shape.sizes c.requires.coords in
    let ends = rw (no_sizes c.dims.sizes_left.now (omega arith), no_coords c.dims.sizes_left.now c.dims.coords_left.now (omega arith)) at c.dims.invariant.0 in
    omega arith
