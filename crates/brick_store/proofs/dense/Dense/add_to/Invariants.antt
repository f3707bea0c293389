use Rattle.std.proofs.Common.{List, map, All}
use Rattle.agg_fold.specs.Standing.{Gains}
use Rattle.brick_columns.specs.Rows.{BrickRow}
use Rattle.brick_store.specs.Cells.{cell_count, rows_below_cell, HoldRows, IsTakenRow}
use Rattle.brick_store.specs.Whole.{row_with_coords}
use Rattle.brick_store.proofs.dense.Dense.add_to.Given as goal

abbrev pub invariant-cells : goal.invariant-cells
invariant-cells l =
    (rows : List BrickRow) → HoldRows l.columns.layout.ranges l.query (cell_count l.columns.layout.ranges l.query.group) rows l.self → All (IsTakenRow l.columns.layout l.starts l.query) rows
    → Gains l.query (map (row_with_coords l.starts) (rows_below_cell l.columns.layout.ranges l.query.group l.cell rows)) l.initial.into.groups l.into.groups
