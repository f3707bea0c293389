use Rattle.std.proofs.Common.{◌≡◌, ◌+◌, ◌-◌, ◌++◌, All, length, map, sym, subst, ap, refl, ◌∙◌, arith}
use Rattle.std.proofs.lemmas.List.{length-append, length-map}
use Rattle.cube_values.specs.EpochsVector.{rows_of, vector_with_entry}
use Rattle.cube_values.specs.declared.entry.Entry.TheVariants.{Run}
use Rattle.epochs_vector.proofs.Ends.{vector_more}
use Rattle.brick_columns.specs.Rows.{offset_row}
use Rattle.cube_values.specs.Batches.{rows_between}
use Rattle.brick_columns.proofs.Batches.{between_long}
use Rattle.brick_store.specs.Bricks.{BrickState, IsRowOf}
use Rattle.brick_store.specs.Whole.{contract_view, row_with_coords}
use Rattle.brick_store.proofs.Changes.{all_lie, whole_with, view_with, sound_appended, rows_appended, rows_known, seen_length}
use Rattle.brick_store.proofs.brick.Brick.append.Goals as goal

pub push_rows-requires-clause-rows : goal.push_rows-requires-clause-rows
push_rows-requires-clause-rows c =
    rw c.as_slice-starts.ensures.value (all_lie c.self.inside c.args.self.now (rows_between c.args.from c.args.to c.args.batch.now.rows) c.self.view_is c.self.invariant c.requires.rows)

pub append_rows-requires-clause-fit : goal.append_rows-requires-clause-fit
append_rows-requires-clause-fit c =
    let old = c.self.inside in
    let more = rows_between c.args.from c.args.to c.args.batch.now.rows in
    let long = between_long c.args.batch.now.rows c.args.from c.args.to c.requires.within in
    let rows = rw c.as_slice-starts.ensures.value at c.push_rows.ensures.rows in
    let count : length c.push_rows.new.self.rows ≡ length old.columns.rows + (c.args.to - c.args.from) =
    ap length rows ∙ length-append old.columns.rows (map (offset_row old.starts.items) more) ∙ omega (arith, length-map more (offset_row old.starts.items), long) in
    omega (arith, rows_known old c.self.invariant, count, c.len-rows.ensures.len, c.len-rows.type_inv)

pub invariant_of-self : goal.invariant_of-self
invariant_of-self c =
    let old = c.self.inside in
    let more = rows_between c.args.from c.args.to c.args.batch.now.rows in
    let long = between_long c.args.batch.now.rows c.args.from c.args.to c.requires.within in
    let own = subst (λ (v : BrickState). All (IsRowOf v.home) more) (sym c.self.view_is) c.requires.rows in
    let rows = rw c.as_slice-starts.ensures.value at c.push_rows.ensures.rows in
    let count : length c.push_rows.new.self.rows ≡ length old.columns.rows + (c.args.to - c.args.from) =
    ap length rows ∙ length-append old.columns.rows (map (offset_row old.starts.items) more) ∙ omega (arith, length-map more (offset_row old.starts.items), long) in
    let known = rows_known old c.self.invariant in
    let vector = vector_more old.epochs.entries (Run c.args.epoch (length c.push_rows.new.self.rows)) (length old.columns.rows) (length c.push_rows.new.self.rows) c.self.invariant.vector (omega (arith, count, c.requires.some), refl) in
    let end : rows_of old.epochs.entries + (c.args.to - c.args.from) ≡ length c.push_rows.new.self.rows = omega (arith, known, count) in
    let entries = c.append_rows.ensures.entries ∙ ap (λ n. vector_with_entry old.epochs.entries (Run c.args.epoch n)) end in
    let room = ap (λ (v : BrickState). v.spare_rows) c.self.view_is in
    let places = ap (λ (v : BrickState). v.spare_entries) c.self.view_is in
    whole_with old c.push_rows.new.self c.append_rows.new.self old.keep (old.spare_rows - (c.args.to - c.args.from)) (old.spare_entries - 1) c.self.invariant c.push_rows.ensures.layout (rw entries vector)
    (omega (arith, c.push_rows.ensures.spare, c.self.invariant.columns))
    (omega (arith, count, c.requires.row_room, room, c.self.invariant.bits))
    (omega (arith, c.append_rows.ensures.spare, c.self.invariant.entries))
    (rw rows (sound_appended old more c.self.invariant own))

pub returns : goal.returns
returns c =
    let old = c.self.inside in
    let n = c.args.to - c.args.from in
    let more = rows_between c.args.from c.args.to c.args.batch.now.rows in
    let own = subst (λ (v : BrickState). All (IsRowOf v.home) more) (sym c.self.view_is) c.requires.rows in
    let pushed = rw c.as_slice-starts.ensures.value at c.push_rows.ensures.rows in
    let rows = ap (map (row_with_coords old.starts.items)) pushed ∙ rows_appended old.starts.items (contract_view old).home old.columns.rows more c.self.invariant.starts c.self.invariant.shape.sizes own in
    let count = rows_known old c.self.invariant ∙ sym (seen_length old (contract_view old) refl) in
    let entries = c.append_rows.ensures.entries ∙ ap (λ k. vector_with_entry old.epochs.entries (Run c.args.epoch (k + n))) count in
    view_with old c.push_rows.new.self c.append_rows.new.self old.keep (old.spare_rows - n) (old.spare_entries - 1) ((contract_view old).rows ++ more) (vector_with_entry old.epochs.entries (Run c.args.epoch (length (contract_view old).rows + n))) c.push_rows.ensures.layout rows entries
    ∙ ap (λ (v : BrickState). record v { rows = v.rows ++ more; entries = vector_with_entry v.entries (Run c.args.epoch (length v.rows + n)); spare_rows = v.spare_rows - n; spare_entries = v.spare_entries - 1 }) c.self.view_is
