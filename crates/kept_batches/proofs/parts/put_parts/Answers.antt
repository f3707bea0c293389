use Rattle.std.proofs.Common.{◌∙◌}
use Rattle.kept_batches.specs.Unhidden.{rows_for_bricks}
use Rattle.kept_batches.proofs.Putting.{flat_put, part_widths}
use Rattle.kept_batches.proofs.parts.put_parts.Goals as goal

pub put_own-requires-clause-widths : goal.put_own-requires-clause-widths
put_own-requires-clause-widths c =
    part_widths c.args.parts.now c.parts.part-index c.part-item.result c.args.batch.now c.parts.batch c.requires.widths
    c.parts.invariant.dims c.parts.invariant.width c.parts-test.true c.part-item.is

pub parts-preserved : goal.parts-preserved
parts-preserved c =
    let puts = c.in_ok-put_own.ensures in
    record {
      rows = flat_put (rows_for_bricks c.args.snapshot.now c.args.bricks.now c.args.limits.now) c.args.parts.now
          c.parts.part-index c.part-item.result c.args.batch.now.rows c.parts.batch.rows c.put_own.new.batch.rows
          c.parts-test.true c.part-item.is c.parts.invariant.rows puts.rows;
      dims = puts.dims ∙ c.parts.invariant.dims;
      width = puts.width ∙ c.parts.invariant.width;
    }
