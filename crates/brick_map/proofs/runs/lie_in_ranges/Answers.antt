use Rattle.std.proofs.Common.{arith}
use Rattle.std.proofs.lemmas.Slice.{first_rest}
use Rattle.brick_map.proofs.Ranges.{one_range_more}
use Rattle.brick_map.proofs.runs.lie_in_ranges.Goals as goal

pub dims-preserved : goal.dims-preserved
dims-preserved c =
    let l = c.dims in
    let e = first_rest l.sizes_left.now (record { cardinality = 0; range = 0 }) c.in-len1-up.len_at_least in
    let f = first_rest l.starts_left.now 0 c.in-len1-up-starts_left.len_at_least in
    let g = first_rest l.coords_left.now 0 c.in-len1-up-coords_left.len_at_least in
    let more = one_range_more _ _ _ _ _ _ _ _ _ e f g l.invariant.sound l.invariant.are_starts l.invariant.coords (omega arith) (omega arith) in
    record { sound = more.sound; are_starts = more.are_starts; coords = more.are_coords; whole = (λ k. l.invariant.whole.0 (more.on k), λ k. more.back (l.invariant.whole.1 k)) }
