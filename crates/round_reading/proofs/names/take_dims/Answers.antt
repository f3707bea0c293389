use Rattle.std.proofs.lemmas.Result.{err_from_is_err_and}
use Rattle.round_reading.specs.Payload.{dim_step}
use Rattle.round_reading.proofs.Loops.{zipped_goes_on, zipped_ends, zipped_done}
use Rattle.round_reading.proofs.names.take_dims.Goals as goal

pub returns-in_err-rest : goal.returns-in_err-rest
returns-in_err-rest c =
    let p = err_from_is_err_and c.from_residual.result c.from_residual.ensures.1 in
    rw (p.1, p.2) (zipped_ends dim_step _ c.args.dims.now c.args.earlier.now c.dims.i c.index-dims-i.result c.index-earlier-i.result _ _ _
    c.requires c.dims-test.true c.index-dims-i.is c.index-earlier-i.is c.in_err-rest.ensures c.dims.invariant)

pub dims-preserved : goal.dims-preserved
dims-preserved c =
    zipped_goes_on dim_step c.args.dims.now c.args.earlier.now c.dims.i c.index-dims-i.result c.index-earlier-i.result _ _ _ _ _
    c.requires c.dims-test.true c.index-dims-i.is c.index-earlier-i.is c.in_ok-rest.ensures c.dims.invariant

pub returns : goal.returns
returns c = zipped_done dim_step c.args.dims.now c.args.earlier.now c.dims.i _ _ _ c.requires c.dims-test.false c.dims.invariant
