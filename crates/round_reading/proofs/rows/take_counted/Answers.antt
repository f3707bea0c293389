use Rattle.std.proofs.lemmas.Result.{err_from_is_err_and}
use Rattle.std.proofs.Common.{◌∙◌}
use Rattle.round_reading.specs.Payload.{row_step}
use Rattle.round_reading.proofs.Loops.{steps_go_on, steps_end, steps_done}
use Rattle.round_reading.proofs.rows.take_counted.Goals as goal

pub returns-in_err-rest-clause-rows : goal.returns-in_err-rest-clause-rows
returns-in_err-rest-clause-rows c =
    let p = err_from_is_err_and c.from_residual.result c.from_residual.ensures.1 in
    rw (p.1, p.2) (steps_end (row_step c.args.schema.now c.args.limits.now c.args.brick) _ c.args.count c.rows.counter _ _ _ c.rows-test.true c.in_err-rest.ensures.rows c.rows.invariant.read)

pub rows-preserved : goal.rows-preserved
rows-preserved c = record {
  read = steps_go_on (row_step c.args.schema.now c.args.limits.now c.args.brick) c.args.count c.rows.counter _ _ _ _ _ c.rows-test.true c.in_ok-rest.ensures.rows c.rows.invariant.read;
  dims = c.in_ok-rest.ensures.dims ∙ c.rows.invariant.dims;
  width = c.in_ok-rest.ensures.width ∙ c.rows.invariant.width;
}

pub returns-clause-rows : goal.returns-clause-rows
returns-clause-rows c = steps_done (row_step c.args.schema.now c.args.limits.now c.args.brick) c.args.count c.rows.counter _ _ _ c.rows-test.false c.rows.invariant.read
