use Rattle.epochs_vector.proofs.Ends.{vector_rows}
use Rattle.epochs_vector.proofs.epochs.Epochs.entries.Goals as goal

pub returns-clause-vector : goal.returns-clause-vector
returns-clause-vector c =
    rw (← c.self.view_is, vector_rows c.self.inside.entries.items c.self.inside.rows c.self.invariant) c.self.invariant
