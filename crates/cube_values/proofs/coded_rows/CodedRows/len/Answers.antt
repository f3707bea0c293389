use Rattle.std.proofs.Common.{length, ap, sym, ◌∙◌}
use Rattle.cube_values.specs.Batches.{Batch}
use Rattle.cube_values.proofs.FlatRows.{length_flat, widths}
use Rattle.cube_values.proofs.coded_rows.CodedRows.len.Goals as goal

pub returns-clause-rows : goal.returns-clause-rows
returns-clause-rows c =
    let b = c.self.inside in
    sym (length_flat b.dims b.width b.coords.items b.metrics.items b.rows) ∙ ap (λ (v : Batch). length v.rows) c.self.view_is

pub returns-clause-widths : goal.returns-clause-widths
returns-clause-widths c =
    let b = c.self.inside in
    let k = c.self.invariant in
    rw (← c.self.view_is) (widths b.dims b.width b.coords.items b.metrics.items b.rows k.1.long k.2.long)
