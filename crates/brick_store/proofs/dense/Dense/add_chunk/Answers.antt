use Rattle.std.proofs.Common.{◌≡◌, ◌+◌, ◌≤◌, ◌==◌, length, get_or, count_by, sym, ap, ◌∙◌, arith, rules}
use Rattle.brick_store.specs.Cells.{cell_of, cell_count, columns_between, TalliesMore}
use Rattle.brick_store.specs.declared.cell_tallies.CellTallies.TheVariants.{Nothing}
use Rattle.cube_values.specs.declared.query.BoundItem.TheVariants.{Group}
use Rattle.std.proofs.lemmas.List.{with_items_is}
use Rattle.brick_store.proofs.CellHolds.{cells_are, cells_within, chunk_more_by, few_counts, small_tallies}
use Rattle.brick_store.proofs.dense.Dense.add_chunk.Goals as goal

pub count_cells-requires-clause-within : goal.count_cells-requires-clause-within
count_cells-requires-clause-within c =
    let (rows, s, few) = c.requires.held in
    let query = c.args.query.now in
    let columns = c.args.columns.now in
    let cells = c.number_cells.new.cells in
    let within : c.args.from + length cells ≤ length columns.rows = omega arith in
    let are = cells_are (cell_of columns.layout.ranges query.group) c.args.from columns.rows cells within (rw c.as_slice.ensures at c.number_cells.ensures) in
    let below = cells_within query columns c.requires.fold c.args.from cells within are in
    λ k d h. omega (arith, below k d h, s.room, ap length c.as_mut_slice.ensures.value)

pub count_cells-requires-clause-room : goal.count_cells-requires-clause-room
count_cells-requires-clause-room c =
    let (rows, s, few) = c.requires.held in
    let query = c.args.query.now in
    let columns = c.args.columns.now in
    rw c.as_mut_slice.ensures.value (few_counts columns.layout.ranges query (cell_count columns.layout.ranges query.group) (length c.number_cells.new.cells) rows c.args.self.now s (omega arith))

pub add_items-requires-clause-cells : goal.add_items-requires-clause-cells
add_items-requires-clause-cells c =
    let query = c.args.query.now in
    let columns = c.args.columns.now in
    let cells = c.number_cells.new.cells in
    let within : c.args.from + length cells ≤ length columns.rows = omega arith in
    rw c.as_slice-3.ensures (cells_are (cell_of columns.layout.ranges query.group) c.args.from columns.rows cells within (rw c.as_slice.ensures at c.number_cells.ensures))

pub add_items-requires-clause-within : goal.add_items-requires-clause-within
add_items-requires-clause-within c =
    let (rows, s, few) = c.requires.held in
    let query = c.args.query.now in
    let columns = c.args.columns.now in
    let cells = c.number_cells.new.cells in
    let within : c.args.from + length cells ≤ length columns.rows = omega arith in
    let are = cells_are (cell_of columns.layout.ranges query.group) c.args.from columns.rows cells within (rw c.as_slice.ensures at c.number_cells.ensures) in
    (cell_count columns.layout.ranges query.group, rw c.as_mut_slice-2.ensures.value s.long, cells_within query columns c.requires.fold c.args.from cells within are)

pub add_items-requires-clause-small : goal.add_items-requires-clause-small
add_items-requires-clause-small c =
    let (rows, s, few) = c.requires.held in
    let query = c.args.query.now in
    let columns = c.args.columns.now in
    rw c.as_mut_slice-2.ensures.value (small_tallies columns.layout.ranges query (cell_count columns.layout.ranges query.group) rows c.args.self.now s)

pub returns : goal.returns
returns c = λ rows few s.
    let query = c.args.query.now in
    let columns = c.args.columns.now in
    let ranges = columns.layout.ranges in
    let old = c.args.self.now in
    let cells = c.number_cells.new.cells in
    let within : c.args.from + length cells ≤ length columns.rows = omega arith in
    let are = cells_are (cell_of ranges query.group) c.args.from columns.rows cells within (rw c.as_slice.ensures at c.number_cells.ensures) in
    let chunk = columns_between c.args.from (c.args.from + length cells) columns.rows in
    let counts = with_items_is old.counts c.count_cells.new.counts (search rules) in
    let tallies = with_items_is old.tallies c.add_items.new.tallies (search rules) in
    let long : length c.count_cells.new.counts ≡ length old.counts.items = omega (arith, ap length c.as_mut_slice.ensures.value) in
    let many : length c.add_items.new.tallies ≡ length old.tallies.items = omega (arith, ap length c.as_mut_slice-2.ensures.value) in
    let more = rw (c.as_slice-2.ensures, c.as_slice-3.ensures) at c.add_items.ensures in
    chunk_more_by query columns c.requires.fold c.args.from cells within are (length c.args.cells.now) (omega arith) rows old _ s few
    (ap length counts ∙ long) (ap length tallies ∙ many)
    (λ cell h.
    ap (λ xs. get_or xs cell 0) counts
    ∙ c.count_cells.ensures cell (omega (arith, ap length c.as_mut_slice.ensures.value))
    ∙ ap (λ xs. get_or xs cell 0 + count_by (λ c. c == cell) cells) c.as_mut_slice.ensures.value)
    (λ i h. coe 0 1 (t. TalliesMore ranges query.group (get_or query.items i (Group 0)) chunk (get_or (c.as_mut_slice-2.ensures.value t) i Nothing) (get_or (sym tallies t) i Nothing)) (more i h))
