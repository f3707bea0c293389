use Rattle.std.proofs.Common.{take, get_or, ◌∙◌, arith}
use Rattle.std.proofs.lemmas.List.{take_more}
use Rattle.std.proofs.lemmas.Slice.Zip.{all_zipped_more}
use Rattle.brick_columns.specs.Rows.{IsWidth}
use Rattle.brick_columns.proofs.columns.widths_of.Goals as goal

pub loop-range-preserved : goal.loop-range-preserved
loop-range-preserved c =
    let l = c.loop-range in
    let ranges = c.args.ranges.now in
    record {
      widths = rw (take_more ranges l.range-index 0 (omega arith), c.push_reserved.ensures.items) (all_zipped_more IsWidth (take l.range-index ranges) l.widths.items (get_or ranges l.range-index 0) c.width_of.result l.invariant.widths c.width_of.ensures);
      count = omega (arith, c.push_reserved.ensures.len, l.invariant.count);
      room = c.push_reserved.ensures.capacity ∙ l.invariant.room;
    }
