use Rattle.std.proofs.Common.{length, get_or, ap, ◌∙◌, arith}
use Rattle.std.proofs.lemmas.List.{get_or_default}
use Rattle.brick_columns.specs.Rows.{BrickRows}
use Rattle.brick_columns.proofs.columns.Columns.range.Goals as goal

pub returns : goal.returns
returns c =
    let old = c.self.inside in
    let dims = ap (λ (v : BrickRows). length v.layout.ranges) c.self.view_is in
    c.index.ensures ∙ get_or_default old.ranges.items c.args.dim c.index.result.now 0 (omega (arith, c.requires, dims)) ∙ ap (λ (v : BrickRows). get_or v.layout.ranges c.args.dim 0) c.self.view_is
