use Rattle.std.proofs.Common.{◌<◌, ◌≤◌, All, IsTrue, [], length, ap, ◌∙◌, subst, sym, rules, arith}
use Rattle.std.specs.List.{AllZip}
use Rattle.std.proofs.lemmas.List.Elements.{All-push}
use Rattle.cube_values.specs.declared.row.CodedRow.{CodedRow}
use Rattle.cube_values.specs.Batches.{coded_row_at, rows_between}
use Rattle.packed_words.specs.Rows.{differences}
use Rattle.brick_columns.specs.Rows.{LiesFrom}
use Rattle.brick_columns.proofs.Batches.{between_more}
use Rattle.column_cases.proofs.rows.can_be_put.Goals as goal

pub rows-preserved : goal.rows-preserved
rows-preserved c =
    let l = c.rows in
    let rows = c.args.batch.now.rows in
    let P : CodedRow → Type 0 = LiesFrom (record { ranges = c.args.ranges.now; metrics = c.args.metrics }) c.args.starts.now in
    let yes : IsTrue c.lie_above.result = search rules in
    let here = coded_row_at rows l.i in
    let above : AllZip ◌≤◌ c.args.starts.now here.coords = rw c.coords_of.ensures at (c.lie_above.ensures.above yes) in
    let below : AllZip ◌<◌ (differences here.coords c.args.starts.now) c.args.ranges.now = rw c.coords_of.ensures at (c.lie_above.ensures.below yes) in
    let row : P here = record { above = above; inside = record { offsets = below; metrics = ap length (sym c.metrics_of.ensures) ∙ omega arith } } in
    subst (All P) (sym (between_more rows c.args.from l.i (record { coords = []; metrics = [] }) (omega arith) (omega arith))) (All-push P (rows_between c.args.from l.i rows) here l.invariant row)
