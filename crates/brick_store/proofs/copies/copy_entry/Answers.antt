use Rattle.std.proofs.Common.{◌≡◌, ◌+◌, ◌-◌, ◌≤◌, ◌∷◌, [], length, map, refl, sym, subst, ap, ◌∙◌, arith}
use Rattle.std.proofs.lemmas.List.{length-append, length-map}
use Rattle.cube_values.specs.declared.entry.Entry.{Entry}
use Rattle.cube_values.specs.declared.entry.Entry.TheVariants.{Run, Mark}
use Rattle.cube_values.specs.EpochsVector.{IsVector, Leads, rows_after, rows_of, vector_with_entry}
use Rattle.cube_values.specs.Batches.{rows_between}
use Rattle.epochs_vector.proofs.Ends.{vector_more, vector_rows}
use Rattle.brick_store.specs.Whole.{row_with_coords}
use Rattle.brick_store.proofs.RoundParts.{long_between}
use Rattle.brick_store.proofs.copies.copy_entry.Goals as goal

pub append_rows-requires-clause-fit : goal.append_rows-requires-clause-fit
append_rows-requires-clause-fit c =
    let known = ap rows_of c.reserve.ensures.entries ∙ vector_rows c.args.epochs.now.entries (length c.args.batch.now.rows) c.requires.vector in
    let end = ap rows_after c.in-Run.is in
    omega (arith, known, c.requires.few, end, c.requires.within, c.len-rows.ensures.len, c.len-rows.type_inv)

pub returns-in_ok-copy_rows-in-Run-clause-vector : goal.returns-in_ok-copy_rows-in-Run-clause-vector
returns-in_ok-copy_rows-in-Run-clause-vector c =
    let first = c.args.first in
    let end = c.in-Run.end in
    let old = c.args.epochs.now.entries in
    let rows = length c.args.batch.now.rows in
    let more = length c.copy_rows.new.batch.rows in
    let all = map (row_with_coords c.args.starts.now) c.args.columns.now.rows in
    let leads = subst (λ (e : Entry). Leads first (e ∷ []) (rows_after e)) c.in-Run.is c.requires.leads in
    let within : end ≤ length all = omega (arith, ap rows_after c.in-Run.is, c.requires.within, length-map c.args.columns.now.rows (row_with_coords c.args.starts.now)) in
    let long = long_between first end all (omega (arith, leads.0)) within in
    let count : more ≡ rows + (end - first) = ap length c.in_ok-copy_rows-in-Run.ensures.rows ∙ length-append c.args.batch.now.rows (rows_between first end all) ∙ omega (arith, long) in
    let known = ap rows_of c.reserve.ensures.entries ∙ vector_rows old rows c.requires.vector in
    let vector = vector_more old (Run c.in-Run.epoch more) rows more c.requires.vector (omega (arith, count, leads.0), refl) in
    let same : rows_of c.reserve.new.self.entries + (end - first) ≡ more = omega (arith, known, count) in
    subst (λ entries. IsVector entries more) (sym (c.append_rows.ensures.entries ∙ (λ t. vector_with_entry (c.reserve.ensures.entries t) (Run c.in-Run.epoch (same t))))) vector

pub returns-in-Mark-clause-vector : goal.returns-in-Mark-clause-vector
returns-in-Mark-clause-vector c =
    let old = c.args.epochs.now.entries in
    let rows = length c.args.batch.now.rows in
    let known = ap rows_of c.reserve.ensures.entries ∙ vector_rows old rows c.requires.vector in
    let vector = vector_more old (Mark c.in-Mark.epoch rows) rows rows c.requires.vector (refl, refl) in
    subst (λ entries. IsVector entries rows) (sym (c.mark.ensures.entries ∙ (λ t. vector_with_entry (c.reserve.ensures.entries t) (Mark c.in-Mark.epoch (known t))))) vector
