use Rattle.std.proofs.Common.{◌++◌, ◌∷◌, [], length, map, ap, sym, append_assoc, ◌∙◌, arith}
use Rattle.std.proofs.lemmas.List.{length-map, length-append}
use Rattle.cube_values.specs.declared.row.CodedRow.{CodedRow}
use Rattle.cube_values.specs.Batches.{Batch, rows_between}
use Rattle.brick_columns.specs.Rows.{row_at}
use Rattle.brick_columns.proofs.Batches.{between_more}
use Rattle.brick_store.specs.Whole.{row_with_coords}
use Rattle.brick_store.proofs.Folds.{row_there}
use Rattle.brick_store.proofs.copies.copy_rows.Goals as goal

pub rows-preserved : goal.rows-preserved
rows-preserved c =
    let l = c.rows in
    let starts = c.args.starts.now in
    let all = map (row_with_coords starts) c.args.columns.now.rows in
    let none : CodedRow = record { coords = []; metrics = [] } in
    let row = row_with_coords starts (row_at c.args.columns.now.rows l.row) in
    let there = row_there starts c.args.columns.now.rows l.row none (omega arith) in
    let long = length-map c.args.columns.now.rows (row_with_coords starts) in
    let more = between_more all c.args.first l.row none (omega arith) (omega (arith, long)) ∙ ap (λ r. rows_between c.args.first l.row all ++ r ∷ []) there in
    let pushed = ap (λ (b : Batch). b.rows) c.copy_row.ensures.batch in
    let count = ap length pushed ∙ length-append l.batch.rows (row ∷ []) in
    let room = ap (λ (b : Batch). b.room) c.copy_row.ensures.batch in
    record {
      rows =
          pushed
          ∙ ap (λ rows. rows ++ row ∷ []) l.invariant.rows
          ∙ append_assoc c.reserve.new.self.rows (rows_between c.args.first l.row all) (row ∷ [])
          ∙ ap (λ rows. c.reserve.new.self.rows ++ rows) (sym more);
      room = omega (arith, count, room, l.invariant.room);
      dims = ap (λ (b : Batch). b.dims) c.copy_row.ensures.batch ∙ l.invariant.dims;
      width = ap (λ (b : Batch). b.width) c.copy_row.ensures.batch ∙ l.invariant.width;
      coords = l.invariant.coords;
      metrics = l.invariant.metrics;
    }
