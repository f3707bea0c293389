use Rattle.std.proofs.Common.{◌≡◌, ◌+◌, refl, ap, arith}
use Rattle.cube_values.specs.declared.entry.Entry.TheVariants.{Run}
use Rattle.cube_values.specs.EpochsVector.{rows_of}
use Rattle.epochs_vector.specs.Entries.{Vector}
use Rattle.epochs_vector.proofs.Ends.{vector_more, vector_rows}
use Rattle.epochs_vector.proofs.epochs.Epochs.append_rows.Goals as goal

pub overflow_add-self : goal.overflow_add-self
overflow_add-self c =
    let e = vector_rows c.self.inside.entries.items c.self.inside.rows c.self.invariant in
    let f : rows_of c.self.inside.entries.items ≡ rows_of c.args.self.now.entries = ap (λ (v : Vector). rows_of v.entries) c.self.view_is in
    omega (arith, c.requires.fit)

pub invariant_of-self : goal.invariant_of-self
invariant_of-self c =
    let old = c.self.inside in
    rw c.put_last.ensures.items (vector_more old.entries.items (Run c.args.epoch (old.rows + c.args.n)) old.rows (old.rows + c.args.n) c.self.invariant (omega (arith, c.requires.some), refl))

pub returns-clause-entries : goal.returns-clause-entries
returns-clause-entries c =
    let old = c.self.inside in
    rw (c.put_last.ensures.items, ← c.self.view_is, vector_rows old.entries.items old.rows c.self.invariant)
