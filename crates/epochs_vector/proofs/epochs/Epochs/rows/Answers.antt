use Rattle.std.proofs.Common.{ap, sym, ◌∙◌}
use Rattle.cube_values.specs.EpochsVector.{rows_of}
use Rattle.epochs_vector.specs.Entries.{Vector}
use Rattle.epochs_vector.proofs.Ends.{vector_rows}
use Rattle.epochs_vector.proofs.epochs.Epochs.rows.Goals as goal

pub returns : goal.returns
returns c =
    sym (vector_rows c.self.inside.entries.items c.self.inside.rows c.self.invariant) ∙ ap (λ (v : Vector). rows_of v.entries) c.self.view_is
