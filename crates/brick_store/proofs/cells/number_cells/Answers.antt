use Rattle.std.proofs.Common.{◌+◌, ◌-◌, [], length, get_or, sym, ◌∙◌, arith}
use Rattle.std.proofs.lemmas.List.Elements.{All-get_or}
use Rattle.brick_columns.specs.Rows.{BrickRow, IsBrickRow, row_at}
use Rattle.brick_store.proofs.CellKeys.{cell_joined, cell_last, cell_small}
use Rattle.brick_store.proofs.cells.number_cells.Goals as goal

pub join_offsets-requires-clause-small : goal.join_offsets-requires-clause-small
join_offsets-requires-clause-small c = λ k h.
    let layout = c.args.columns.now.layout in
    let group = c.args.group.now in
    let rows = c.args.columns.now.rows in
    let row = row_at rows (c.args.from + k) in
    let none : BrickRow = record { offsets = []; metrics = [] } in
    let brick = All-get_or (IsBrickRow layout) rows (c.args.from + k) none (omega arith) c.requires.sound in
    let joined = cell_joined layout.ranges group row c.dims.done (get_or c.read_offsets-in-dims.new.offsets k 0) c.range.result (get_or c.dims.cells k 0) (omega arith) (c.read_offsets-in-dims.ensures k (omega arith)) c.range.ensures (c.dims.invariant k (omega arith)) in
    omega (arith, joined, cell_small layout group row (length group - (c.dims.done + 1)) 4294967296 brick c.requires.dims c.requires.some c.requires.few)

pub dims-preserved : goal.dims-preserved
dims-preserved c = λ k h.
    let layout = c.args.columns.now.layout in
    let group = c.args.group.now in
    let row = row_at c.args.columns.now.rows (c.args.from + k) in
    c.join_offsets.ensures k (omega arith)
    ∙ cell_joined layout.ranges group row c.dims.done (get_or c.read_offsets-in-dims.new.offsets k 0) c.range.result (get_or c.dims.cells k 0) (omega arith) (c.read_offsets-in-dims.ensures k (omega arith)) c.range.ensures (c.dims.invariant k (omega arith))

pub dims-init : goal.dims-init
dims-init c = λ k h.
    let layout = c.args.columns.now.layout in
    let group = c.args.group.now in
    let row = row_at c.args.columns.now.rows (c.args.from + k) in
    c.read_offsets.ensures k (omega arith) ∙ sym (cell_last layout.ranges group row (length group - 1) (omega arith))
