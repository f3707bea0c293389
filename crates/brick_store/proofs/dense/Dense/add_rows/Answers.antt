use Rattle.std.proofs.Common.{◌≡◌, ◌+◌, ◌≤◌, ◌++◌, List, length, length-append, length-drop, drop, sym, ap, subst, ◌∙◌, arith}
use Rattle.std.proofs.lemmas.List.{append-nil, length-take-le}
use Rattle.brick_columns.specs.Rows.{BrickRow}
use Rattle.brick_store.specs.Cells.{cell_count, columns_between, HoldMore, HoldRows}
use Rattle.brick_store.proofs.CellHolds.{between_join, between_none, hold_then}
use Rattle.brick_store.proofs.dense.Dense.add_rows.Goals as goal

pub chunks-init : goal.chunks-init
chunks-init c = record {
  after = omega arith;
  within = omega arith;
  held = λ rows few s.
      let ranges = c.args.columns.now.layout.ranges in
      let query = c.args.query.now in
      let none = between_none c.args.from c.args.columns.now.rows in
      subst (λ (rs : List BrickRow). HoldRows ranges query (cell_count ranges query.group) rs c.args.self.now) (sym (ap (λ (l : List BrickRow). rows ++ l) none ∙ append-nil rows)) s;
  some = omega arith;
  as_long = omega arith;
}

pub chunks-preserved : goal.chunks-preserved
chunks-preserved c =
    let l = c.chunks in
    let query = c.args.query.now in
    let columns = c.args.columns.now in
    let ranges = columns.layout.ranges in
    let n = c.min-n.result in
    let new = c.add_part.new.self in
    let count = cell_count ranges query.group in
    let within : n ≤ length l.cells = omega arith in
    let long = length-take-le n l.cells within in
    let second = subst (λ k. HoldMore ranges query count (columns_between l.at (l.at + k) columns.rows) l.self new) long c.add_part.ensures in
    let cells : length c.add_part.new.cells ≡ n = omega (arith, long) in
    let offsets : length c.add_part.new.offsets ≡ n = omega (arith, length-take-le n l.offsets (omega (arith, l.invariant.as_long))) in
    record {
      after = omega arith;
      within = omega arith;
      held = subst (λ rs. HoldMore ranges query count rs c.args.self.now new) (between_join c.args.from l.at (l.at + n) columns.rows (omega (arith, l.invariant.after)) (omega arith))
          (hold_then ranges query count (columns_between c.args.from l.at columns.rows) (columns_between l.at (l.at + n) columns.rows) c.args.self.now l.self new l.invariant.held second);
      some = omega (arith, cells, length-append c.add_part.new.cells (drop n l.cells), length-drop n l.cells, l.invariant.some);
      as_long = omega (arith, cells, offsets, length-append c.add_part.new.cells (drop n l.cells), length-append c.add_part.new.offsets (drop n l.offsets), length-drop n l.cells, length-drop n l.offsets, l.invariant.as_long);
    }
