use Rattle.std.proofs.Common.{map, sym, subst, ap, ◌∙◌}
use Rattle.std.specs.List.{AllZip}
use Rattle.brick_columns.specs.Rows.{BrickRow, BrickRows, IsWidth}
use Rattle.brick_columns.proofs.WholeRows.{offset_rows, same_widths}
use Rattle.brick_columns.proofs.columns.Columns.words.Goals as goal

pub returns : goal.returns
returns c = λ widths h.
    let old = c.self.inside in
    let own = subst (λ (v : BrickRows). AllZip IsWidth v.layout.ranges widths) (sym c.self.view_is) h in
    let same = same_widths old.ranges.items widths old.offsets.widths own c.self.invariant.widths in
    let rows = ap (λ (v : BrickRows). map (λ (row : BrickRow). row.offsets) v.rows) (sym c.self.view_is) ∙ offset_rows old c.self.invariant in
    rw (same, rows) c.words.ensures
