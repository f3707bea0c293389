use Rattle.std.proofs.Common.{[], map, get_or, sym, ap, arith}
use Rattle.brick_store.specs.Cells.{rows_below_cell}
use Rattle.brick_store.specs.Whole.{row_with_coords}
use Rattle.brick_store.proofs.CellGains.{gains_cell, room_for_cell}
use Rattle.brick_store.proofs.CellKeys.{cell_below}
use Rattle.brick_store.proofs.CellRows.{all_below, none_below}
use Rattle.brick_store.proofs.Folds.{gains_none, gains_same}
use Rattle.brick_store.proofs.dense.Dense.add_to.Goals as goal

pub cells-init : goal.cells-init
cells-init c = λ rows s taken.
    let query = c.args.query.now in
    let ranges = c.args.columns.now.layout.ranges in
    gains_same query [] (map (row_with_coords c.args.starts.now) (rows_below_cell ranges query.group 0 rows)) c.args.into.now.groups c.args.into.now.groups
    (sym (ap (map (row_with_coords c.args.starts.now)) (none_below ranges query.group rows))) (gains_none query c.args.into.now.groups)

pub add_cell-requires-clause-held : goal.add_cell-requires-clause-held
add_cell-requires-clause-held c =
    let (rows, s, taken, room) = c.requires.held in
    let l = c.cells in
    let query = c.args.query.now in
    let ranges = c.args.columns.now.layout.ranges in
    (rows, s, taken, room_for_cell query ranges c.args.starts.now l.cell _ rows c.args.into.now.groups l.into.groups (s.counts l.cell (omega (arith, s.room))) room (l.invariant rows s taken))

pub cells-preserved : goal.cells-preserved
cells-preserved c =
    let l = c.cells in
    let query = c.args.query.now in
    let ranges = c.args.columns.now.layout.ranges in
    λ rows s taken. gains_cell query ranges c.args.starts.now l.cell rows c.args.into.now.groups l.into.groups c.add_cell.new.into.groups (l.invariant rows s taken) (c.in_ok-add_cell.ensures rows s taken)

pub returns : goal.returns
returns c = λ rows s taken.
    let l = c.cells in
    let query = c.args.query.now in
    let layout = c.args.columns.now.layout in
    let all = all_below layout.ranges query.group l.cell rows (λ i d h. omega (arith, cell_below layout query.group (get_or rows i d) (taken i d h).brick c.requires.fold.sound.group, s.room)) in
    gains_same query _ _ c.args.into.now.groups l.into.groups (ap (map (row_with_coords c.args.starts.now)) all) (l.invariant rows s taken)
