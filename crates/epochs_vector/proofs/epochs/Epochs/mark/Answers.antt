use Rattle.std.proofs.Common.{refl}
use Rattle.cube_values.specs.declared.entry.Entry.TheVariants.{Mark}
use Rattle.epochs_vector.proofs.Ends.{vector_more, vector_rows}
use Rattle.epochs_vector.proofs.epochs.Epochs.mark.Goals as goal

pub invariant_of-self : goal.invariant_of-self
invariant_of-self c =
    let old = c.self.inside in
    rw c.put_last.ensures.items (vector_more old.entries.items (Mark c.args.epoch old.rows) old.rows old.rows c.self.invariant (refl, refl))

pub returns-clause-entries : goal.returns-clause-entries
returns-clause-entries c =
    let old = c.self.inside in
    rw (c.put_last.ensures.items, ← c.self.view_is, vector_rows old.entries.items old.rows c.self.invariant)
