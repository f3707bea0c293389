use Rattle.std.proofs.Common.{[], subst, arith}
use Rattle.std.specs.List.{items_where_true}
use Rattle.brick_store.specs.Cells.{HoldRows}
use Rattle.brick_store.proofs.CellScans.{can_fold, taken_rows}
use Rattle.brick_store.proofs.Changes.{rows_left}
use Rattle.brick_store.proofs.Folds.{gains_same, set_short}
use Rattle.brick_store.proofs.scan.fold_cells.Goals as goal

pub add_runs-requires-clause-fold : goal.add_runs-requires-clause-fold
add_runs-requires-clause-fold c =
    can_fold c.args.query.now c.args.starts.now c.args.columns.now c.requires.readable c.requires.sound c.requires.ranges (omega (arith, c.requires.cells, c.requires.few)) (rw c.as_slice-2.ensures at c.numbers_fit.ensures)

pub add_runs-requires-clause-few : goal.add_runs-requires-clause-few
add_runs-requires-clause-few c =
    let (rows, s, few) = c.requires.room in
    omega arith

pub add_runs-requires-clause-empty : goal.add_runs-requires-clause-empty
add_runs-requires-clause-empty c =
    let ranges = c.args.columns.now.layout.ranges in
    subst (λ n. HoldRows ranges c.args.query.now n [] c.reset.new.self) c.requires.cells (c.in_ok-reset.ensures ranges)

pub add_to-requires-clause-fold : goal.add_to-requires-clause-fold
add_to-requires-clause-fold c =
    can_fold c.args.query.now c.args.starts.now c.args.columns.now c.requires.readable c.requires.sound c.requires.ranges (omega (arith, c.requires.cells, c.requires.few)) (rw c.as_slice-2.ensures at c.numbers_fit.ensures)

pub add_to-requires-clause-held : goal.add_to-requires-clause-held
add_to-requires-clause-held c =
    let (rows, s, few) = c.requires.room in
    let bits = c.args.bits.now.bits in
    let columns = c.args.columns.now in
    let chosen = items_where_true bits columns.rows in
    let fit = rw c.as_slice-2.ensures at c.numbers_fit.ensures in
    (chosen, c.add_runs.ensures, taken_rows c.args.query.now c.args.starts.now columns bits c.requires.readable fit c.requires.inside, (rows, s, omega (arith, few, set_short bits columns.rows)))

pub returns : goal.returns
returns c =
    let bits = c.args.bits.now.bits in
    let columns = c.args.columns.now in
    let query = c.args.query.now in
    let fit = rw c.as_slice-2.ensures at c.numbers_fit.ensures in
    let taken = taken_rows query c.args.starts.now columns bits c.requires.readable fit c.requires.inside in
    gains_same query _ _ c.args.into.now.groups c.add_to.new.into.groups (rows_left c.args.starts.now bits columns.rows) (c.in_ok-add_to.ensures (items_where_true bits columns.rows) c.add_runs.ensures taken)
