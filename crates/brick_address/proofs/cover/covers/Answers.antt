use Rattle.std.proofs.Common.{◌∙◌, ap, sym, length}
use Rattle.brick_address.proofs.Steps.{none_past}
use Rattle.brick_address.proofs.cover.covers.Goals as goal

pub returns-then-sizes-parts : goal.returns-then-sizes-parts
returns-then-sizes-parts c =
    none_past c.args.shape.now.sizes c.args.span.now.parts c.args.brick
    (λ e. c.if-sizes-parts.true (ap length c.as_slice-sizes.ensures ∙ e ∙ sym (ap length c.as_slice-parts.ensures)))
