use Rattle.std.proofs.Common.{◌+◌, ◌-◌, length, map, fold, take, drop, ap, ◌∙◌}
use Rattle.agg_fold.specs.declared.tally.Tally.{Tally}
use Rattle.agg_fold.specs.Tallies.{tally_with}
use Rattle.brick_columns.specs.Rows.{metric_at}
use Rattle.packed_words.specs.Counted.{numbers_in}
use Rattle.brick_store.specs.Cells.{cell_tally, columns_between, rows_in_cell}
use Rattle.brick_store.proofs.CellHolds.{between_map}
use Rattle.brick_store.proofs.CellRows.{numbers_of_rows, tallied_more}
use Rattle.brick_store.proofs.dense.add_metric.Goals as goal

pub returns : goal.returns
returns c = λ item asked.
    let ranges = c.args.columns.now.layout.ranges in
    let group = c.args.group.now in
    let rows = c.args.columns.now.rows in
    let m = c.args.metric in
    let from = c.args.from in
    let to = from + length c.args.cells.now in
    let chunk = columns_between from to rows in
    let numbers = ap (λ xs. take (to - from) (drop from xs)) c.metrics_of.ensures ∙ between_map (metric_at m) from to rows in
    record {
      long = c.add.ensures.long;
      tallied = λ n cell before known below is.
          let here = rows_in_cell ranges group cell chunk in
          let told = (λ t. numbers_in cell (c.requires.cells t) (numbers t)) ∙ numbers_of_rows ranges group cell m chunk in
          c.add.ensures.more n cell known below
          ∙ ap (λ ns. fold tally_with (cell_tally c.args.tally.now cell) ns) told
          ∙ ap (λ (t : Tally). fold tally_with t (map (metric_at m) here)) is
          ∙ tallied_more item m asked before here;
    }
