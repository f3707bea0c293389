use Rattle.std.proofs.lemmas.Result.{err_from_is_err_and}
use Rattle.std.proofs.Common.{sym, arith}
use Rattle.round_reading.specs.Payload.{cube_step}
use Rattle.round_reading.proofs.CubesLeft.{dims_of, lent}
use Rattle.round_reading.proofs.Loops.{zipped_goes_on, zipped_ends, zipped_done}
use Rattle.round_reading.proofs.PayloadLaws.{dims_length}
use Rattle.round_reading.proofs.cubes.take_cubes.Goals as goal

pub bounds-names-i : goal.bounds-names-i
bounds-names-i c = omega (arith, dims_length c.args.schemas.now c.args.names.now c.requires, c.cubes-test.true)

pub take_cube-requires : goal.take_cube-requires
take_cube-requires c =
    dims_of c.args.schemas.now c.args.names.now c.cubes.i c.index-schemas-i.result c.as_slice.result.now c.requires c.cubes-test.true c.index-schemas-i.is
    (lent c.args.names.now c.cubes.i c.index-names-i.result c.as_slice.result.now c.as_slice.ensures c.index-names-i.is)

pub returns-in_err-rest : goal.returns-in_err-rest
returns-in_err-rest c =
    let p = err_from_is_err_and c.from_residual.result c.from_residual.ensures.1 in
    rw (p.1, p.2) (zipped_ends (cube_step c.args.epochs.from c.args.epochs.epoch) _ c.args.schemas.now c.args.names.now c.cubes.i c.index-schemas-i.result c.as_slice.result.now _ _ _
    (sym (dims_length c.args.schemas.now c.args.names.now c.requires)) c.cubes-test.true c.index-schemas-i.is
    (lent c.args.names.now c.cubes.i c.index-names-i.result c.as_slice.result.now c.as_slice.ensures c.index-names-i.is) c.in_err-rest.ensures c.cubes.invariant)

pub cubes-preserved : goal.cubes-preserved
cubes-preserved c =
    zipped_goes_on (cube_step c.args.epochs.from c.args.epochs.epoch) c.args.schemas.now c.args.names.now c.cubes.i c.index-schemas-i.result c.as_slice.result.now _ _ _ _ _
    (sym (dims_length c.args.schemas.now c.args.names.now c.requires)) c.cubes-test.true c.index-schemas-i.is
    (lent c.args.names.now c.cubes.i c.index-names-i.result c.as_slice.result.now c.as_slice.ensures c.index-names-i.is) c.in_ok-rest.ensures c.cubes.invariant

pub returns : goal.returns
returns c =
    zipped_done (cube_step c.args.epochs.from c.args.epochs.epoch) c.args.schemas.now c.args.names.now c.cubes.i _ _ _
    (sym (dims_length c.args.schemas.now c.args.names.now c.requires)) c.cubes-test.false c.cubes.invariant
