use Rattle.std.proofs.lemmas.Result.{err_from_is_err_and}
use Rattle.round_reading.specs.Payload.{coord_step, coords_from}
use Rattle.round_reading.proofs.Loops.{each_goes_on, each_ends, each_done}
use Rattle.round_reading.proofs.rows.take_coords.Goals as goal

pub returns-in_err-rest : goal.returns-in_err-rest
unfolding coords_from
returns-in_err-rest c =
    let p = err_from_is_err_and c.from_residual.result c.from_residual.ensures.1 in
    rw (p.1, p.2) (each_ends coord_step _ c.args.limits.now c.limits.limit-index 0 _ _ _ c.limits-test.true c.in_err-rest.ensures c.limits.invariant)

pub limits-preserved : goal.limits-preserved
limits-preserved c =
    each_goes_on coord_step c.args.limits.now c.limits.limit-index 0 _ _ _ _ _ c.limits-test.true c.in_ok-rest.ensures c.limits.invariant

pub returns : goal.returns
unfolding coords_from
returns c = each_done coord_step c.args.limits.now c.limits.limit-index _ _ _ c.limits-test.false c.limits.invariant
