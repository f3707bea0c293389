use Rattle.std.proofs.Common.{length, ap, arith}
use Rattle.cube_values.specs.Batches.{Batch}
use Rattle.cube_values.proofs.FlatRows.{length_flat}
use Rattle.cube_values.proofs.coded_rows.CodedRows.room.Goals as goal

pub returns-clause-within : goal.returns-clause-within
returns-clause-within c =
    let b = c.self.inside in
    omega (arith, c.self.invariant.0, length_flat b.dims b.width b.coords.items b.metrics.items b.rows, ap (λ (v : Batch). length v.rows) c.self.view_is, ap (λ (v : Batch). v.room) c.self.view_is)
