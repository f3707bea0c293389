use Rattle.std.proofs.Common.{false, replicate, ap, sym, ◌∙◌}
use Rattle.cube_values.specs.EpochsVector.{rows_of}
use Rattle.epochs_vector.specs.Entries.{Vector}
use Rattle.epochs_vector.proofs.Ends.{vector_rows}
use Rattle.epochs_vector.proofs.epochs.Epochs.visible_bits.Goals as goal

pub set_visible-requires : goal.set_visible-requires
set_visible-requires c =
    c.in_ok-bits.ensures.bits ∙ ap (λ n. replicate n false) (sym (vector_rows c.self.inside.entries.items c.self.inside.rows c.self.invariant) ∙ ap (λ (v : Vector). rows_of v.entries) c.self.view_is)

pub returns-clause-room : goal.returns-clause-room
returns-clause-room c =
    c.set_visible.ensures.room ∙ c.in_ok-bits.ensures.room ∙ sym (vector_rows c.self.inside.entries.items c.self.inside.rows c.self.invariant) ∙ ap (λ (v : Vector). rows_of v.entries) c.self.view_is
