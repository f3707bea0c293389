use Rattle.std.proofs.Common.{◌≡◌, refl, ap, arith, length, vec_len, vec_capacity, ◌-◌}
use Rattle.cube_values.specs.BitRows.{set_bits}
use Rattle.epochs_vector.specs.Entries.{Vector}
use Rattle.epochs_vector.proofs.Ends.{vector_rows}
use Rattle.epochs_vector.proofs.epochs.Epochs.with_entries.Goals as goal

pub change-requires : goal.change-requires
change-requires g c = c.requires.call _ _ (ap (λ (v : Vector). v.entries) c.self.view_is) refl

pub invariant_of-self : goal.invariant_of-self
invariant_of-self g c =
    let v = c.requires.sound _ _ _ _ c.change.ensures (ap (λ (v : Vector). v.entries) c.self.view_is) refl in
    rw c.ones-self-inside.ensures v.vector

pub returns-clause-change : goal.returns-clause-change
returns-clause-change g c = (_, _, _, _, c.change.ensures, ap (λ (v : Vector). v.entries) c.self.view_is, refl, refl, refl)

pub returns-clause-rows : goal.returns-clause-rows
returns-clause-rows g c =
    let v = c.requires.sound _ _ _ _ c.change.ensures (ap (λ (v : Vector). v.entries) c.self.view_is) refl in
    vector_rows c.change.new.arg2.items (set_bits c.change.new.arg3.bits) v.vector

pub returns-clause-spare : goal.returns-clause-spare
returns-clause-spare g c =
    let v = c.requires.sound _ _ _ _ c.change.ensures (ap (λ (v : Vector). v.entries) c.self.view_is) refl in
    let old = c.self.inside.entries in
    let e : length old.items ≡ length c.args.self.now.entries = ap (λ (v : Vector). length v.entries) c.self.view_is in
    let s : vec_capacity old - vec_len old ≡ c.args.self.now.spare = ap (λ (v : Vector). v.spare) c.self.view_is in
    omega (arith, v.fewer, v.memory, old.ok.0, c.change.new.arg2.ok.0)
