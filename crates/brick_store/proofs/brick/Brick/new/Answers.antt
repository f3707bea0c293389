use Rattle.std.proofs.Common.{map, ap, arith}
use Rattle.brick_columns.specs.Rows.{Layout}
use Rattle.brick_store.specs.Whole.{row_with_coords}
use Rattle.brick_store.proofs.Changes.{made_whole}
use Rattle.brick_store.proofs.brick.Brick.new.Goals as goal

pub invariant_of-result : goal.invariant_of-result
invariant_of-result c =
    let columns = c.in_ok-columns.ensures in
    made_whole c.args.shape.now c.in_ok-copied.copied c.args.number c.args.metrics c.in_ok-starts.starts c.in_ok-columns.columns c.new-epochs.result c.in_ok-keep.keep c.in_ok-copied.ensures c.requires.shape c.requires.number (omega arith) c.in_ok-starts.ensures columns.layout columns.rows c.new-epochs.ensures

pub returns : goal.returns
returns c =
    let wide = ap (λ (layout : Layout). layout.metrics) c.in_ok-columns.ensures.layout in
    let rows = ap (map (row_with_coords c.in_ok-starts.starts.items)) c.in_ok-columns.ensures.rows in
    λ t. record {
      home = record { sizes = (c.in_ok-copied.ensures t).sizes; metrics = wide t; number = c.args.number };
      rows = rows t;
      entries = c.new-epochs.ensures t;
      spare_rows = 0;
      spare_entries = 0;
    }
