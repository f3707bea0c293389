use Rattle.kept_batches.proofs.Putting.{round_widths}
use Rattle.kept_batches.proofs.parts.put_rounds.Goals as goal

pub put_parts-requires-clause-widths : goal.put_parts-requires-clause-widths
put_parts-requires-clause-widths c =
    round_widths c.args.bricks.now.place c.args.rounds.now c.rounds.round-index c.round-item.result
    c.parts_of_cube-parts.result.now c.args.batch.now c.rounds.batch c.requires.widths c.rounds.invariant.dims
    c.rounds.invariant.width c.rounds-test.true c.round-item.is c.parts_of_cube-parts.ensures
