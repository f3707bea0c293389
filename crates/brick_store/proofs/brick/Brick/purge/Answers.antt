use Rattle.std.proofs.Common.{◌≡◌, length, map, replicate, true, sym, ap, ◌∙◌, arith}
use Rattle.std.specs.List.{items_where_true}
use Rattle.purge_plan.specs.Purged.{spared_bits, purged_entries}
use Rattle.cube_values.specs.BitRows.{set_bits}
use Rattle.brick_columns.proofs.KeptItems.{kept_length}
use Rattle.brick_store.specs.Bricks.{BrickState}
use Rattle.brick_store.specs.Whole.{contract_view, row_with_coords}
use Rattle.brick_store.proofs.Changes.{length-spared, whole_with, view_with, rows_known, rows_left, sound_left}
use Rattle.brick_store.proofs.brick.Brick.purge.Goals as goal

pub reset-requires : goal.reset-requires
reset-requires c = omega (arith, c.self.invariant.bits)

pub purge_entries-requires : goal.purge_entries-requires
purge_entries-requires c =
    c.reset.ensures.bits ∙ ap (λ n. replicate n true) (c.len.ensures.len ∙ sym (rows_known c.self.inside c.self.invariant))

pub leave_rows-requires : goal.leave_rows-requires
leave_rows-requires c =
    let old = c.self.inside in
    ap length c.purge_entries.ensures.keep ∙ length-spared c.args.epoch old.epochs.entries ∙ rows_known old c.self.invariant

pub invariant_of-self : goal.invariant_of-self
invariant_of-self c =
    let old = c.self.inside in
    let bits = spared_bits c.args.epoch old.epochs.entries in
    let rows = rw c.purge_entries.ensures.keep at c.leave_rows.ensures.rows in
    let count : length c.leave_rows.new.columns.rows ≡ set_bits bits = ap length rows ∙ kept_length bits old.columns.rows (sym (length-spared c.args.epoch old.epochs.entries ∙ rows_known old c.self.invariant)) in
    let vector = rw c.purge_entries.ensures.keep at c.purge_entries.ensures.vector in
    whole_with old c.leave_rows.new.columns c.purge_entries.new.epochs c.purge_entries.new.keep old.spare_rows old.spare_entries c.self.invariant c.leave_rows.ensures.layout (rw count vector)
    (omega (arith, c.leave_rows.ensures.spare, c.self.invariant.columns))
    (omega (arith, c.leave_rows.ensures.room, c.leave_rows.ensures.spare, c.purge_entries.ensures.room, c.reset.ensures.room, c.self.invariant.bits))
    (omega (arith, c.purge_entries.ensures.spare, c.self.invariant.entries))
    (rw rows (sound_left old bits c.self.invariant))

pub returns : goal.returns
returns c =
    let old = c.self.inside in
    let bits = spared_bits c.args.epoch old.epochs.entries in
    let left = rw c.purge_entries.ensures.keep at c.leave_rows.ensures.rows in
    let rows = ap (map (row_with_coords old.starts.items)) left ∙ rows_left old.starts.items bits old.columns.rows in
    view_with old c.leave_rows.new.columns c.purge_entries.new.epochs c.purge_entries.new.keep old.spare_rows old.spare_entries (items_where_true bits (contract_view old).rows) (purged_entries c.args.epoch old.epochs.entries) c.leave_rows.ensures.layout rows c.purge_entries.ensures.entries
    ∙ ap (λ (v : BrickState). record v { rows = items_where_true (spared_bits c.args.epoch v.entries) v.rows; entries = purged_entries c.args.epoch v.entries }) c.self.view_is
