use Rattle.std.proofs.Common.{arith}
use Rattle.std.proofs.lemmas.Slice.{first_rest}
use Rattle.brick_address.proofs.Steps.{first_size, next_product}
use Rattle.brick_address.proofs.sizes.bricks_of.Goals as goal

pub overflow_mul-bricks : goal.overflow_mul-bricks
overflow_mul-bricks c =
    let e = first_rest c.sizes.left.now (record { cardinality = 0; range = 0 }) c.in-len1-up.len_at_least in
    let f = first_size _ _ _ e c.sizes.invariant.1 in
    let n = next_product _ _ _ _ _ _ c.sizes.invariant.0 f.bricks c.ranges_of-bricks.ensures f.some in
    omega arith

pub sizes-preserved : goal.sizes-preserved
sizes-preserved c =
    let e = first_rest c.sizes.left.now (record { cardinality = 0; range = 0 }) c.in-len1-up.len_at_least in
    let f = first_size _ _ _ e c.sizes.invariant.1 in
    ((next_product _ _ _ _ _ _ c.sizes.invariant.0 f.bricks c.ranges_of-bricks.ensures f.some).0, f.others)
