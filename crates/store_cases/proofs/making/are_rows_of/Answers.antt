use Rattle.std.proofs.Common.{All, IsTrue, length, [], ap, ◌∙◌, subst, sym, rules, arith}
use Rattle.std.proofs.lemmas.List.Elements.{All-push}
use Rattle.cube_values.specs.declared.row.CodedRow.{CodedRow}
use Rattle.cube_values.specs.Batches.{coded_row_at, rows_between}
use Rattle.brick_address.specs.Addresses.{LieIn}
use Rattle.brick_columns.proofs.Batches.{between_more}
use Rattle.brick_store.specs.Bricks.{IsRowOf}
use Rattle.store_cases.proofs.making.are_rows_of.Goals as goal

pub rows-preserved : goal.rows-preserved
rows-preserved c =
    let l = c.rows in
    let rows = c.args.batch.now.rows in
    let P : CodedRow → Type 0 = IsRowOf (record { sizes = c.args.shape.now.sizes; metrics = 1; number = c.args.number }) in
    let yes : IsTrue c.lie_in.result = search rules in
    let here = coded_row_at rows l.i in
    let lies : LieIn c.args.shape.now.sizes c.args.number here.coords = rw c.coords_of.ensures at (c.lie_in.ensures yes) in
    let row : P here = record { coords = lies; metrics = ap length (sym c.metrics_of.ensures) ∙ omega arith } in
    subst (All P) (sym (between_more rows c.args.from l.i (record { coords = []; metrics = [] }) (omega arith) (omega arith))) (All-push P (rows_between c.args.from l.i rows) here l.invariant row)
