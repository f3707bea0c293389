use Rattle.std.proofs.Common.{◌-◌, length, sym, ap, refl, ◌∙◌, arith}
use Rattle.cube_values.specs.EpochsVector.{vector_with_entry}
use Rattle.cube_values.specs.declared.entry.Entry.TheVariants.{Mark}
use Rattle.epochs_vector.proofs.Ends.{vector_more}
use Rattle.brick_store.specs.Bricks.{BrickState}
use Rattle.brick_store.specs.Whole.{contract_view}
use Rattle.brick_store.proofs.Changes.{whole_with, view_with, rows_known, seen_length}
use Rattle.brick_store.proofs.brick.Brick.mark.Goals as goal

pub invariant_of-self : goal.invariant_of-self
invariant_of-self c =
    let old = c.self.inside in
    let rows = length old.columns.rows in
    let vector = vector_more old.epochs.entries (Mark c.args.epoch rows) rows rows c.self.invariant.vector (refl, refl) in
    let entries = c.mark.ensures.entries ∙ ap (λ n. vector_with_entry old.epochs.entries (Mark c.args.epoch n)) (rows_known old c.self.invariant) in
    whole_with old old.columns c.mark.new.self old.keep old.spare_rows (old.spare_entries - 1) c.self.invariant refl (rw entries vector) c.self.invariant.columns c.self.invariant.bits (omega (arith, c.mark.ensures.spare, c.self.invariant.entries)) c.self.invariant.sound

pub returns : goal.returns
returns c =
    let old = c.self.inside in
    let count = rows_known old c.self.invariant ∙ sym (seen_length old (contract_view old) refl) in
    let entries = c.mark.ensures.entries ∙ ap (λ n. vector_with_entry old.epochs.entries (Mark c.args.epoch n)) count in
    view_with old old.columns c.mark.new.self old.keep old.spare_rows (old.spare_entries - 1) (contract_view old).rows (vector_with_entry old.epochs.entries (Mark c.args.epoch (length (contract_view old).rows))) refl refl entries
    ∙ ap (λ (v : BrickState). record v { entries = vector_with_entry v.entries (Mark c.args.epoch (length v.rows)); spare_entries = v.spare_entries - 1 }) c.self.view_is
