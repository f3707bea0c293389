use Rattle.std.proofs.lemmas.Result.{err_from_is_err_and}
use Rattle.std.proofs.Common.{ℕ, List, Ok}
use Rattle.cube_rounds.specs.Bricks.{BrickPart}
use Rattle.round_fields.specs.Reading.{ReadOf}
use Rattle.round_reading.specs.Payload.{RisingBricks, brick_step, bricks_counted}
use Rattle.round_reading.proofs.Loops.{steps_go_on, steps_end, steps_done, then_told, then_fails}
use Rattle.round_reading.proofs.entries.counted_bricks.Goals as goal

abbrev kept : RisingBricks × List ℕ → ReadOf (List BrickPart)
kept b = Ok (b.0.bricks, b.1)

pub returns-in_err-rest : goal.returns-in_err-rest
unfolding bricks_counted
returns-in_err-rest c =
    let p = err_from_is_err_and c.from_residual.result c.from_residual.ensures.1 in
    rw (p.1, p.2) (then_fails _ _ kept (steps_end (brick_step c.args.schema.now c.args.limits.now c.args.epochs.from c.args.epochs.epoch) _ c.args.count c.bricks.counter _ _ _ c.bricks-test.true c.in_err-rest.ensures c.bricks.invariant))

pub bricks-preserved : goal.bricks-preserved
bricks-preserved c =
    steps_go_on (brick_step c.args.schema.now c.args.limits.now c.args.epochs.from c.args.epochs.epoch) c.args.count c.bricks.counter _ _ _ _ _ c.bricks-test.true c.in_ok-rest.ensures c.bricks.invariant

pub returns : goal.returns
unfolding bricks_counted
returns c =
    then_told _ kept _ (steps_done (brick_step c.args.schema.now c.args.limits.now c.args.epochs.from c.args.epochs.epoch) c.args.count c.bricks.counter _ _ _ c.bricks-test.false c.bricks.invariant)
