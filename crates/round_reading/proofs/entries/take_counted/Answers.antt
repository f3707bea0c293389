use Rattle.std.proofs.lemmas.Result.{err_from_is_err_and}
use Rattle.std.proofs.Common.{◌∙◌}
use Rattle.round_reading.specs.Payload.{entry_step}
use Rattle.round_reading.proofs.Loops.{steps_go_on, steps_end, steps_done}
use Rattle.round_reading.proofs.entries.take_counted.Goals as goal

pub returns-in_err-rest : goal.returns-in_err-rest
returns-in_err-rest c =
    let p = err_from_is_err_and c.from_residual.result c.from_residual.ensures.1 in
    rw (p.1, p.2) (steps_end (entry_step c.args.schema.now c.args.limits.now c.args.epochs.from c.args.epochs.epoch c.args.brick) _ c.args.count c.entries.counter _ _ _ c.entries-test.true c.in_err-rest.ensures.entry c.entries.invariant.read)

pub entries-preserved : goal.entries-preserved
entries-preserved c = record {
  read = steps_go_on (entry_step c.args.schema.now c.args.limits.now c.args.epochs.from c.args.epochs.epoch c.args.brick) c.args.count c.entries.counter _ _ _ _ _ c.entries-test.true c.in_ok-rest.ensures.entry c.entries.invariant.read;
  dims = c.in_ok-rest.ensures.dims ∙ c.entries.invariant.dims;
  width = c.in_ok-rest.ensures.width ∙ c.entries.invariant.width;
}

pub returns : goal.returns
returns c = steps_done (entry_step c.args.schema.now c.args.limits.now c.args.epochs.from c.args.epochs.epoch c.args.brick) c.args.count c.entries.counter _ _ _ c.entries-test.false c.entries.invariant.read
