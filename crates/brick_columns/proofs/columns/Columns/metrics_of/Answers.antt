use Rattle.std.proofs.Common.{map, sym, ap, ◌∙◌, arith}
use Rattle.brick_columns.specs.Rows.{BrickRows, metric_at}
use Rattle.brick_columns.proofs.WholeRows.{metrics_column}
use Rattle.brick_columns.proofs.columns.Columns.metrics_of.Goals as goal

pub returns : goal.returns
returns c =
    let old = c.self.inside in
    let width = ap (λ (v : BrickRows). v.layout.metrics) c.self.view_is in
    let column = metrics_column old c.args.m c.index.result.now c.self.invariant (omega arith) in
    c.as_slice.ensures.value ∙ ap (λ v. v.items) c.index.ensures ∙ sym column ∙ ap (λ (v : BrickRows). map (metric_at c.args.m) v.rows) c.self.view_is
