use Rattle.std.proofs.Common.{◌≡◌, ◌<◌, [], pos, length, map, get_or, subst, ◌∙◌, arith}
use Rattle.std.proofs.lemmas.List.{get_or_default}
use Rattle.brick_columns.specs.Rows.{BrickRow}
use Rattle.brick_store.specs.Cells.{cell_count, rows_in_cell, cell_metrics, IsToldBy}
use Rattle.brick_store.specs.Whole.{row_with_coords}
use Rattle.brick_store.proofs.CellGains.{gains_no_cell, rows_of_cell, told_all, told_rows}
use Rattle.brick_store.proofs.dense.Dense.add_cell.Goals as goal

pub returns-then-rows-eq0 : goal.returns-then-rows-eq0
returns-then-rows-eq0 c = λ rows s taken.
    let query = c.args.query.now in
    let ranges = c.args.columns.now.layout.ranges in
    let count = s.counts c.args.cell (omega (arith, s.room)) in
    gains_no_cell query ranges c.args.starts.now c.args.cell rows c.args.into.now.groups
    (omega (arith, count, c.index-rows.ensures, get_or_default c.args.self.now.counts.items c.args.cell c.index-rows.result.now 0 c.requires.cell))

pub write_key-requires-clause-some : goal.write_key-requires-clause-some
write_key-requires-clause-some c =
    let (rows, s, taken, room) = c.requires.held in
    let query = c.args.query.now in
    let columns = c.args.columns.now in
    let here = rows_in_cell columns.layout.ranges query.group c.args.cell rows in
    let none : BrickRow = record { offsets = []; metrics = [] } in
    let count = s.counts c.args.cell (omega (arith, s.room)) in
    let some : 0 < length here = omega (arith, count, c.index-rows.ensures, get_or_default c.args.self.now.counts.items c.args.cell c.index-rows.result.now 0 c.requires.cell) in
    rw c.as_slice.ensures (get_or here 0 none, rows_of_cell query columns c.args.starts.now c.args.cell rows c.requires.fold c.requires.starts taken 0 none some)

pub tell-requires-clause-cell : goal.tell-requires-clause-cell
tell-requires-clause-cell c =
    let (rows, s, taken, room) = c.requires.held in
    rw c.as_slice-2.ensures.value (cell_count c.args.columns.now.layout.ranges c.args.query.now.group, s.long, omega (arith, s.room))

pub add_group-requires-clause-some : goal.add_group-requires-clause-some
add_group-requires-clause-some c =
    let (rows, s, taken, room) = c.requires.held in
    let query = c.args.query.now in
    let columns = c.args.columns.now in
    let starts = c.args.starts.now in
    let cell = c.args.cell in
    let ms = cell_metrics columns.layout.ranges query.group cell rows in
    let tallies = c.args.self.now.tallies.items in
    let count : c.index-rows.result.now ≡ length (rows_in_cell columns.layout.ranges query.group cell rows) =
    c.index-rows.ensures ∙ get_or_default c.args.self.now.counts.items cell c.index-rows.result.now 0 c.requires.cell ∙ s.counts cell (omega (arith, s.room)) in
    let keyed = rw c.as_slice.ensures at c.write_key.ensures in
    let tells = rw c.as_slice-2.ensures.value at c.tell.ensures in
    let below : cell < cell_count columns.layout.ranges query.group = omega (arith, s.room) in
    let told = told_all ms query.items c.tell.new.sums c.tell.new.lows c.tell.new.highs (omega (arith, c.requires.sums)) (omega (arith, c.requires.lows)) (omega (arith, c.requires.highs))
    (λ i b. subst (IsToldBy (get_or c.tell.new.sums i (pos 0)) (get_or c.tell.new.lows i (pos 0)) (get_or c.tell.new.highs i (pos 0))) (s.tallies i cell b below) (tells i (omega (arith, s.items)))) in
    (map (row_with_coords starts) (rows_in_cell columns.layout.ranges query.group cell rows), told_rows query columns starts cell rows c.requires.fold c.requires.starts taken c.write_key.new.key c.index-rows.result.now c.tell.new.sums c.tell.new.lows c.tell.new.highs count keyed told)

pub returns : goal.returns
returns c = λ rows s taken.
    let query = c.args.query.now in
    let columns = c.args.columns.now in
    let starts = c.args.starts.now in
    let cell = c.args.cell in
    let ms = cell_metrics columns.layout.ranges query.group cell rows in
    let tallies = c.args.self.now.tallies.items in
    let count : c.index-rows.result.now ≡ length (rows_in_cell columns.layout.ranges query.group cell rows) =
    c.index-rows.ensures ∙ get_or_default c.args.self.now.counts.items cell c.index-rows.result.now 0 c.requires.cell ∙ s.counts cell (omega (arith, s.room)) in
    let keyed = rw c.as_slice.ensures at c.write_key.ensures in
    let tells = rw c.as_slice-2.ensures.value at c.tell.ensures in
    let below : cell < cell_count columns.layout.ranges query.group = omega (arith, s.room) in
    let told = told_all ms query.items c.tell.new.sums c.tell.new.lows c.tell.new.highs (omega (arith, c.requires.sums)) (omega (arith, c.requires.lows)) (omega (arith, c.requires.highs))
    (λ i b. subst (IsToldBy (get_or c.tell.new.sums i (pos 0)) (get_or c.tell.new.lows i (pos 0)) (get_or c.tell.new.highs i (pos 0))) (s.tallies i cell b below) (tells i (omega (arith, s.items)))) in
    c.in_ok-add_group.ensures.ok (map (row_with_coords starts) (rows_in_cell columns.layout.ranges query.group cell rows)) (told_rows query columns starts cell rows c.requires.fold c.requires.starts taken c.write_key.new.key c.index-rows.result.now c.tell.new.sums c.tell.new.lows c.tell.new.highs count keyed told)
