use Rattle.std.proofs.Common.{◌≡◌, ◌+◌, ◌-◌, ◌<◌, ◌≤◌, ◌==◌, length, map, take, drop, get_or, All, sym, ap, subst, ◌∙◌, arith, rules}
use Rattle.std.specs.Vec.{with_items}
use Rattle.std.proofs.lemmas.List.{with_items_is}
use Rattle.std.proofs.lemmas.List.Sums.{count_by-le-length}
use Rattle.cube_values.specs.declared.query.BoundItem.TheVariants.{Group}
use Rattle.packed_words.specs.Counted.{IsShort}
use Rattle.brick_columns.specs.Rows.{metric_at}
use Rattle.brick_store.specs.Cells.{cell_of, cell_count, columns_between, TalliesMore}
use Rattle.brick_store.specs.CountedChunks.{TakesSums}
use Rattle.brick_store.specs.declared.cell_tallies.CellTallies.TheVariants.{Nothing}
use Rattle.brick_store.proofs.CellHolds.{between_map, chunk_more_by, few_counts, small_tallies}
use Rattle.brick_store.proofs.ChunkWords.{chunk_long, counted_chunk, one_count, short_numbers, takes_more}
use Rattle.brick_store.proofs.dense.Dense.add_counted.Goals as goal

pub count_in_cells-requires-clause-short : goal.count_in_cells-requires-clause-short
count_in_cells-requires-clause-short c =
    let columns = c.args.columns.now in
    let from = c.args.from in
    let n = c.args.rows in
    let m = c.args.by.metric in
    let numbers = ap (λ xs. take (from + n - from) (drop from xs)) c.metrics_of.ensures ∙ between_map (metric_at m) from (from + n) columns.rows in
    subst (All IsShort) (sym numbers)
    (short_numbers m from (from + n) columns.rows c.requires.by.short (λ k d h. let brick = c.requires.fold.rows k d h in omega (arith, brick.metrics, c.requires.by.one)))

pub take_counts-requires-clause-room : goal.take_counts-requires-clause-room
take_counts-requires-clause-room c = λ cell h.
    let (rows, s, few) = c.requires.held in
    let query = c.args.query.now in
    let columns = c.args.columns.now in
    let ranges = columns.layout.ranges in
    let from = c.args.from in
    let n = c.args.rows in
    let m = c.args.by.metric in
    let chunk = columns_between from (from + n) columns.rows in
    let cells = map (cell_of ranges query.group) chunk in
    let numbers = ap (λ xs. take (from + n - from) (drop from xs)) c.metrics_of.ensures ∙ between_map (metric_at m) from (from + n) columns.rows in
    let counted = counted_chunk ranges query.group c.args.by.dim m from n columns.rows c.requires.by.group c.requires.rows c.count_in_cells.new.sums _ numbers c.count_in_cells.ensures.counted in
    let count = one_count ranges query.group c.args.by.dim c.requires.by.group in
    let there : cell < length c.args.self.now.counts.items = omega (arith, ap length c.as_mut_slice.ensures.value) in
    let within : cell < length c.count_in_cells.new.sums = omega (arith, there, s.room, count, c.requires.by.range, c.count_in_cells.ensures.long) in
    let room = few_counts ranges query (cell_count ranges query.group) n rows c.args.self.now s few cell 0 there in
    omega (arith, room, counted.counts cell within, count_by-le-length (λ c. c == cell) cells, chunk_long (cell_of ranges query.group) from n columns.rows c.requires.rows, ap (λ xs. get_or xs cell 0) c.as_mut_slice.ensures.value)

pub take_each-requires-clause-small : goal.take_each-requires-clause-small
take_each-requires-clause-small c =
    let (rows, s, few) = c.requires.held in
    let query = c.args.query.now in
    let columns = c.args.columns.now in
    rw c.as_mut_slice-2.ensures.value (small_tallies columns.layout.ranges query (cell_count columns.layout.ranges query.group) rows c.args.self.now s)

pub returns : goal.returns
returns c = λ rows few s.
    let query = c.args.query.now in
    let columns = c.args.columns.now in
    let ranges = columns.layout.ranges in
    let old = c.args.self.now in
    let from = c.args.from in
    let n = c.args.rows in
    let m = c.args.by.metric in
    let words = c.count_in_cells.new.sums in
    let chunk = columns_between from (from + n) columns.rows in
    let cells = map (cell_of ranges query.group) chunk in
    let long : length cells ≡ n = chunk_long (cell_of ranges query.group) from n columns.rows c.requires.rows in
    let within : from + length cells ≤ length columns.rows = omega (arith, long, c.requires.rows) in
    let are = ap (λ k. map (cell_of ranges query.group) (columns_between from (from + k) columns.rows)) (sym long) in
    let numbers = ap (λ xs. take (from + n - from) (drop from xs)) c.metrics_of.ensures ∙ between_map (metric_at m) from (from + n) columns.rows in
    let counted = counted_chunk ranges query.group c.args.by.dim m from n columns.rows c.requires.by.group c.requires.rows words _ numbers c.count_in_cells.ensures.counted in
    let count = one_count ranges query.group c.args.by.dim c.requires.by.group in
    let wide : cell_count ranges query.group ≤ length words = omega (arith, count, c.requires.by.range, c.count_in_cells.ensures.long) in
    let counts = with_items_is old.counts c.take_counts.new.counts (search rules) in
    let tallies = with_items_is old.tallies c.take_each.new.tallies (search rules) in
    let size : length c.take_counts.new.counts ≡ length old.counts.items = omega (arith, ap length c.as_mut_slice.ensures.value) in
    let many : length c.take_each.new.tallies ≡ length old.tallies.items = omega (arith, ap length c.as_mut_slice-2.ensures.value) in
    chunk_more_by query columns c.requires.fold from cells within are n (sym long) rows old _ s few
    (ap length counts ∙ size) (ap length tallies ∙ many)
    (λ cell h.
    let there : cell < length words = omega (arith, wide, s.room) in
    ap (λ xs. get_or xs cell 0) counts
    ∙ c.take_counts.ensures cell (omega (arith, ap length c.as_mut_slice.ensures.value))
    ∙ (λ t. get_or (c.as_mut_slice.ensures.value t) cell 0 + counted.counts cell there t))
    (λ i h.
    let taken = c.take_each.ensures i (omega (arith, ap length c.as_mut_slice-2.ensures.value, s.items)) in
    let new = get_or (with_items old.tallies c.take_each.new.tallies).items i Nothing in
    let takes : TakesSums words (get_or old.tallies.items i Nothing) new = coe 0 1 (t. TakesSums words (get_or (c.as_mut_slice-2.ensures.value t) i Nothing) (get_or (sym tallies t) i Nothing)) taken in
    subst (λ k. TalliesMore ranges query.group (get_or query.items i (Group 0)) (columns_between from (from + k) columns.rows) (get_or old.tallies.items i Nothing) new) (sym long)
    (takes_more ranges query.group m chunk words counted (cell_count ranges query.group) (get_or old.tallies.items i Nothing) new (s.long i Nothing (omega (arith, s.items))) wide takes (get_or query.items i (Group 0)) (c.requires.by.items i (Group 0) h)))
