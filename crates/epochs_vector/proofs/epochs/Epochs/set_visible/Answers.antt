use Rattle.std.proofs.Common.{◌≡◌, length, false, ap, sym, subst, ◌∙◌, arith}
use Rattle.std.proofs.lemmas.List.{length-replicate}
use Rattle.cube_values.specs.EpochsVector.{Leads, rows_of}
use Rattle.epochs_vector.specs.Entries.{Vector}
use Rattle.epochs_vector.specs.Seen.{seen_rows}
use Rattle.epochs_vector.proofs.Ends.{vector_rows}
use Rattle.epochs_vector.proofs.VisibleRows.{all_seen}
use Rattle.epochs_vector.proofs.epochs.Epochs.set_visible.Goals as goal

pub show_rows-requires-clause-leads : goal.show_rows-requires-clause-leads
show_rows-requires-clause-leads c =
    let entries = c.self.inside.entries.items in
    let rows = c.self.inside.rows in
    let count = ap (λ (v : Vector). rows_of v.entries) c.self.view_is in
    let long : length c.args.bits.now.bits ≡ rows = ap length c.requires ∙ length-replicate (rows_of c.args.self.now.entries) false ∙ sym count ∙ vector_rows entries rows c.self.invariant in
    rw c.as_slice-2.ensures.value (subst (Leads 0 entries) (sym long) c.self.invariant.leads)

pub returns-clause-bits : goal.returns-clause-bits
returns-clause-bits c =
    let entries = c.self.inside.entries.items in
    let rows = c.self.inside.rows in
    let count = ap (λ (v : Vector). rows_of v.entries) c.self.view_is in
    let long : length c.show_rows.new.bits.bits ≡ rows_of entries = c.show_rows.ensures.long ∙ ap length c.requires ∙ length-replicate (rows_of c.args.self.now.entries) false ∙ sym count in
    let limit = rw c.as_slice.ensures.value at c.limit_of-limit.ensures in
    let shown = rw c.as_slice-2.ensures.value at c.show_rows.ensures.shown in
    all_seen c.args.snapshot.now c.limit_of-limit.result entries c.show_rows.new.bits.bits limit long (λ i h. shown i (omega (arith, c.show_rows.ensures.long))) ∙ ap (λ (v : Vector). seen_rows c.args.snapshot.now v.entries) c.self.view_is
