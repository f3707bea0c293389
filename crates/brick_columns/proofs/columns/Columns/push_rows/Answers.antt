use Rattle.std.proofs.Common.{◌++◌, ◌∷◌, [], sym, ap, append_assoc, ◌∙◌, arith}
use Rattle.cube_values.specs.Batches.{coded_row_at}
use Rattle.brick_columns.specs.Rows.{LiesFrom, offset_row}
use Rattle.brick_columns.proofs.Batches.{mapped_more, one_between}
use Rattle.brick_columns.proofs.columns.Columns.push_rows.Goals as goal

pub push_from-requires-clause-row : goal.push_from-requires-clause-row
push_from-requires-clause-row c =
    let l = c.rows in
    let batch = c.args.batch.now.rows in
    let row = one_between (LiesFrom c.args.self.now.layout c.args.starts.now) batch c.args.from c.args.to l.i (omega arith) (omega arith) c.requires.within c.requires.rows in
    rw (l.invariant.layout, c.coords_of.ensures, c.metrics_of.ensures) row

pub rows-preserved : goal.rows-preserved
rows-preserved c =
    let l = c.rows in
    let batch = c.args.batch.now.rows in
    let more = mapped_more (offset_row c.args.starts.now) batch c.args.from l.i (omega arith) (omega arith) in
    let one = rw (c.coords_of.ensures, c.metrics_of.ensures) at c.push_from.ensures.rows in
    record {
      layout = c.push_from.ensures.layout ∙ l.invariant.layout;
      rows =
          one
          ∙ ap (λ rows. rows ++ offset_row c.args.starts.now (coded_row_at batch l.i) ∷ []) l.invariant.rows
          ∙ append_assoc c.args.self.now.rows _ _
          ∙ ap (λ rows. c.args.self.now.rows ++ rows) (sym more);
      spare = omega (arith, c.push_from.ensures.spare, l.invariant.spare);
    }
