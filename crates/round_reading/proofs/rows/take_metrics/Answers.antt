use Rattle.std.proofs.lemmas.Result.{err_from_is_err_and}
use Rattle.std.proofs.Common.{get_or, []}
use Rattle.round_reading.specs.Payload.{metric_step, metrics_from}
use Rattle.round_reading.proofs.Loops.{each_goes_on, each_ends, each_done}
use Rattle.round_reading.proofs.rows.take_metrics.Goals as goal

pub returns-in_err-rest : goal.returns-in_err-rest
unfolding metrics_from
returns-in_err-rest c =
    let p = err_from_is_err_and c.from_residual.result c.from_residual.ensures.1 in
    rw (p.1, p.2) (each_ends metric_step _ c.args.names.now c.names.counter [] _ _ _ c.names-test.true (c.in_err-rest.ensures (get_or c.args.names.now c.names.counter [])) c.names.invariant)

pub names-preserved : goal.names-preserved
names-preserved c =
    each_goes_on metric_step c.args.names.now c.names.counter [] _ _ _ _ _ c.names-test.true (c.in_ok-rest.ensures (get_or c.args.names.now c.names.counter [])) c.names.invariant

pub returns : goal.returns
unfolding metrics_from
returns c = each_done metric_step c.args.names.now c.names.counter _ _ _ c.names-test.false c.names.invariant
